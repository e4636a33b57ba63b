-- The result of a run, for the states of the sinks that it wrote to.
use Rattle.mine_instance.specs.Instance.{Instance}
use Rattle.devices.specs.sinks.SinkState.{SinkState}
use Rattle.minelib_lines.specs.declared.text_name.TextName.{TextName}
use Rattle.refusals.specs.declared.refusal.Refusal.{Refusal}
use Rattle.refusals.specs.declared.refusal.Refusal.TheVariants.{Settings, NoThread, FeedFailed, TooLong, Row, Same, SinkFailed, OutOfMemory}
use Rattle.pit_compile.specs.Sinks.{AreCutOffAt}

-- writing stopped at the sink that failed, or at some sink because memory was refused
abbrev pub AreCutOff : Instance → (TextName → SinkState) → (TextName → SinkState) → Refusal → Type 0
AreCutOff i old new (SinkFailed which) = AreCutOffAt which 1 i old new
AreCutOff i old new OutOfMemory = (which : TextName) × AreCutOffAt which 0 i old new
AreCutOff i old new (Settings kind) = ⊥
AreCutOff i old new NoThread = ⊥
AreCutOff i old new (FeedFailed file) = ⊥
AreCutOff i old new (TooLong file) = ⊥
AreCutOff i old new (Row file fault) = ⊥
AreCutOff i old new (Same first again) = ⊥
