-- The error for a repeated cell of the grid.
use Rattle.std.specs.Prelude.{List}
use Rattle.rows.specs.declared.item.Valued.{Valued}
use Rattle.refusals.specs.declared.refusal.Refusal.{Refusal}
use Rattle.refusals.specs.declared.refusal.Refusal.TheVariants.{Settings, NoThread, FeedFailed, TooLong, Row, Same, SinkFailed, OutOfMemory}
use Rattle.pit_compile.specs.inner.ValuedRows.{RepeatsFirst}

-- the error names the first repetition; it says nothing more if memory was refused
abbrev pub IsRepeat : List Valued → Refusal → Type 0
IsRepeat rows (Same first again) = RepeatsFirst rows first again
IsRepeat rows OutOfMemory = Unit {0}
IsRepeat rows (Settings kind) = ⊥
IsRepeat rows NoThread = ⊥
IsRepeat rows (FeedFailed file) = ⊥
IsRepeat rows (TooLong file) = ⊥
IsRepeat rows (Row file fault) = ⊥
IsRepeat rows (SinkFailed which) = ⊥
