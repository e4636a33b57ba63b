-- The effect of a writer on a sink, for each result.
use Rattle.std.specs.Prelude.{◌<◌, ℕ, List, length, Result, MatchResult}
use Rattle.devices.specs.sinks.SinkState.{SinkState, IsWritten, IsCutOff}
use Rattle.devices.specs.sinks.SinkSteps.{refusals, IsAppended, IsAppendCut}
use Rattle.devices.specs.declared.sinks.slices.TheConstants.{LARGE}
use Rattle.devices.specs.declared.sinks.sink.SinkFault.{SinkFault}
use Rattle.pit_units.specs.declared.or_memory.OrMemory.{OrMemory}

-- after `Ok`, the sink holds the text. After an error, it was cut off, and refused the number of calls that the error implies
abbrev pub Writes : List ℕ → SinkState → SinkState → Result (Unit {0}) (OrMemory SinkFault) → Type 0
Writes text old new result =
    MatchResult result (λ _. IsWritten text old new) (λ fault. IsCutOff (refusals fault) text old new)

-- the buffer is not full: it holds fewer bytes than one put
abbrev pub HasRoom : List ℕ → Type 0
HasRoom buffer = length buffer < LARGE

-- the text was written after the bytes that the buffer held; a buffer that was not full is not full now
pub record IsWrittenOn (text before after : List ℕ) (old new : SinkState) : Type 0 where
  pub appended : IsAppended text before after old new
  pub room : HasRoom before → HasRoom after

-- after `Ok`, the text was written; after an error, writing was cut off
abbrev pub WritesOn : List ℕ → List ℕ → List ℕ → SinkState → SinkState → Result (Unit {0}) (OrMemory SinkFault) → Type 0
WritesOn text before after old new result =
    MatchResult result (λ _. IsWrittenOn text before after old new)
    (λ fault. IsAppendCut (refusals fault) text before old new)
