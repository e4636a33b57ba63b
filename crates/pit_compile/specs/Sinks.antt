-- The states of the sinks of a run, before and after the files of an instance are written to them in order.
use Rattle.std.specs.Prelude.{◌≡◌, ℕ, List, ◌∷◌, ◌++◌, All}
use Rattle.devices.specs.sinks.SinkState.{SinkState, IsWritten, IsCutOff}
use Rattle.minelib_lines.specs.TextNames.{all_texts}
use Rattle.minelib_writing.specs.Texts.{text_named}
use Rattle.minelib_lines.specs.declared.text_name.TextName.{TextName}
use Rattle.minelib_lines.specs.declared.text_name.TextName.TheVariants as text
use Rattle.mine_instance.specs.Instance.{Instance}
use Rattle.pit_compile.specs.declared.sinks.Sinks.{Sinks}

-- the sink of a file
abbrev pub sink_of : {S : Type 0} → Sinks S → TextName → S
sink_of sinks text.Blocks = sinks.blocks
sink_of sinks text.Prec = sinks.prec
sink_of sinks text.Upit = sinks.upit
sink_of sinks text.Pcpsp = sinks.pcpsp
sink_of sinks text.Cpit = sinks.cpit

-- the state of the sink of each file
abbrev pub sink_states : {S : Type 0} → (S → SinkState) → Sinks S → TextName → SinkState
sink_states state sinks name = state (sink_of sinks name)

-- each sink holds its file
abbrev pub AreWritten : Instance → (TextName → SinkState) → (TextName → SinkState) → Type 0
AreWritten i old new = (name : TextName) → IsWritten (text_named name i) (old name) (new name)

-- the sinks before this one hold their files, this one was cut off, and the sinks after it are unchanged
pub record AreCutOffAt (which : TextName) (more : ℕ) (i : Instance)
    (old new : TextName → SinkState) : Type 0 where
  pub before : List TextName
  pub following : List TextName
  pub order : all_texts ≡ before ++ which ∷ following
  pub written : All (λ name. IsWritten (text_named name i) (old name) (new name)) before
  pub cut : IsCutOff more (text_named which i) (old which) (new which)
  pub still : All (λ name. new name ≡ old name) following
