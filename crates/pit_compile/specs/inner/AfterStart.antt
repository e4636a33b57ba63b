-- The errors of a run after its threads are joined.
use Rattle.refusals.specs.declared.refusal.Refusal.{Refusal}
use Rattle.refusals.specs.declared.refusal.Refusal.TheVariants.{Settings, NoThread, FeedFailed, TooLong, Row, Same, SinkFailed, OutOfMemory}

-- the error concerns a file, a block, a sink or memory, and neither the settings nor a thread start
abbrev pub IsAfterStart : Refusal → Type 0
IsAfterStart (Settings kind) = ⊥
IsAfterStart NoThread = ⊥
IsAfterStart (FeedFailed file) = Unit {0}
IsAfterStart (TooLong file) = Unit {0}
IsAfterStart (Row file fault) = Unit {0}
IsAfterStart (Same first again) = Unit {0}
IsAfterStart (SinkFailed which) = Unit {0}
IsAfterStart OutOfMemory = Unit {0}
