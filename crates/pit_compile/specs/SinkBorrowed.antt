-- The sinks after one of them was borrowed mutably. Only callers of `of_mut` and proofs need this file.
use Rattle.std.specs.Borrow.{Lends, Fml, RattleType, MutBor}
use Rattle.minelib_lines.specs.declared.text_name.TextName.{TextName}
use Rattle.minelib_lines.specs.declared.text_name.TextName.TheVariants as text
use Rattle.pit_compile.specs.contracts.sinks.Sinks.{the_row}
use Rattle.pit_compile.specs.declared.sinks.Sinks.{Sinks}

-- the sinks, with this one for a file
abbrev pub with_sink : {S : Type 0} → Sinks S → TextName → S → Sinks S
with_sink sinks text.Blocks sink = record sinks { blocks = sink }
with_sink sinks text.Prec sink = record sinks { prec = sink }
with_sink sinks text.Upit sink = record sinks { upit = sink }
with_sink sinks text.Pcpsp sink = record sinks { pcpsp = sink }
with_sink sinks text.Cpit sink = record sinks { cpit = sink }

module _ (S : RattleType) where
  -- when the borrow ends, the sink of the file is the final value of the borrow
  abbrev pub BorrowsSink : MutBor (Sinks S.Denot) → TextName → MutBor S.Denot → Fml
  BorrowsSink sinks name borrowed = Lends (the_row S) S sinks borrowed (with_sink sinks.now name)
