-- The state of a sink before and after one step of a writer, which may keep bytes in a buffer.
use Rattle.std.specs.Prelude.{◌≡◌, ◌+◌, ℕ, List}
use Rattle.devices.specs.Device.{added, IsTakenPrefix}
use Rattle.devices.specs.declared.sinks.sink.SinkFault.{SinkFault}
use Rattle.pit_units.specs.declared.or_memory.OrMemory.{OrMemory}
use Rattle.pit_units.specs.declared.or_memory.OrMemory.TheVariants.{Fault, OutOfMemory}
use Rattle.devices.specs.sinks.SinkState.{SinkState, IsBegunAsBefore}

-- the text was appended: the taken bytes and the buffer together grew by it, and the sink refused no call
pub record IsAppended (text before after : List ℕ) (old new : SinkState) : Type 0 where
  pub taken : added after new.taken ≡ added text (added before old.taken)
  pub works : new.failures ≡ old.failures
  pub still : IsBegunAsBefore old new

-- the sink refused `more` calls, and holds a prefix of the taken bytes, the buffer and the text
pub record IsAppendCut (more : ℕ) (text before : List ℕ) (old new : SinkState) : Type 0 where
  pub prefix : IsTakenPrefix new.taken (added text (added before old.taken))
  pub fails : new.failures ≡ old.failures + more
  pub still : IsBegunAsBefore old new

-- the number of calls that a sink refused, for each error of writing
abbrev pub refusals : OrMemory SinkFault → ℕ
refusals (Fault fault) = 1
refusals OutOfMemory = 0
