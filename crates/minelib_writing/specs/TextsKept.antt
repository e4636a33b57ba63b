-- The facts about an instance after one of its files is written.
use Rattle.std.specs.Prelude.{⊤}
use Rattle.mine_instance.specs.cpit.CpitInvariant.{IsCpit}
use Rattle.mine_instance.specs.cpit.OfCpit.{cpit}
use Rattle.mine_instance.specs.Instance.{Instance}
use Rattle.mine_instance.specs.WellFormed.{IsWellFormed, IsWellFormedCpit}
use Rattle.minelib_lines.specs.declared.text_name.TextName.{TextName}
use Rattle.minelib_lines.specs.declared.text_name.TextName.TheVariants.{Pcpsp, Cpit}

-- by the file's name: the guarantees of these two writers; the others guarantee nothing
abbrev pub kept_named : TextName → Instance → Type 0
kept_named Pcpsp i = IsWellFormed i
kept_named Cpit i = IsWellFormedCpit (cpit i) × IsCpit (cpit i)
kept_named name i = ⊤
