-- The state of an output after bytes were written to it.
use Rattle.std.specs.Prelude.{◌≡◌, ℕ, ◌+◌, ◌<◌, ◌⊎◌, List, [], ◌∷◌, ◌++◌, codes, length, take}
use Rattle.devices.specs.Device.{added}
use Rattle.devices.specs.sinks.SinkState.{SinkState}

-- it took all these bytes, and refused no call
pub record TakesAll (bytes : List ℕ) (old new : SinkState) : Type 0 where
  pub taken : new.taken ≡ added bytes old.taken
  pub works : new.failures ≡ old.failures

-- it took a prefix of these bytes, but not all, and refused one call
pub record TakesLess (bytes : List ℕ) (old new : SinkState) : Type 0 where
  pub count : ℕ
  pub few : count < length bytes
  pub taken : new.taken ≡ added (take count bytes) old.taken
  pub fails : new.failures ≡ old.failures + 1

-- it took all these bytes; or a prefix of them, and refused a call
abbrev pub TakesAtMost : List ℕ → (old new : SinkState) → Type 0
TakesAtMost bytes old new = TakesAll bytes old new ⊎ TakesLess bytes old new

-- the lines to print, or the line for refused memory if there are none
abbrev pub printed_lines : List ℕ → List ℕ
printed_lines [] = codes "pitc: OutOfMemory" ++ 10 ∷ []
printed_lines (byte ∷ bytes) = byte ∷ bytes

-- the line for an output that did not take its whole text
abbrev pub output_failed : List ℕ
output_failed = codes "pitc: output: SinkFailed" ++ 10 ∷ []
