-- How a program ends: what its streams took, and its exit status.
use Rattle.std.specs.Prelude.{◌≡◌, ◌≢◌, ◌⊎◌, ℕ, List}
use Rattle.devices.specs.sinks.SinkState.{SinkState}
use Rattle.command_io.specs.FaultLine.{Ends}
use Rattle.command_io.specs.World.{World}
use Rattle.command_io.specs.WriteAll.{TakesAll, TakesAtMost, TakesLess, output_failed, printed_lines}
use Rattle.command_io.specs.declared.ending.Streams.{Streams}
use Rattle.command_io.specs.declared.refused.Refused.{Refused}

-- a command failed before it had a status: its error was reported with this status, and nothing but the lines changed
pub record Reports (refused : Refused) (left new : World) (status : ℕ) : Type 0 where
  pub ends : Ends refused left.lines new.lines status
  pub fails : status ≢ 0
  pub kept : new ≡ record left { lines = new.lines }

-- a command was done, and ended with this status; or it failed for a reason `Why` before it had one, and the reason was reported
abbrev pub IsDoneOrReported : (Done : (status : ℕ) → Type 0) → (Why : (left : World) → Refused → Type 0) → (new : World) → (status : ℕ) → Type 0
IsDoneOrReported Done Why new status = Done status ⊎ ((refused : Refused) × (left : World) × Why left refused × Reports refused left new status)

-- by the states of standard output and standard error
module _ {P E : Type 0} (output : P → SinkState) (errors : E → SinkState) where
  -- standard output took this text, and the exit status is 0; or it took less, the exit status is 3, and standard error was called to take
  -- the line for that
  abbrev pub PrintsText : (text : List ℕ) → (old new : Streams P E) → (exit : ℕ) → Type 0
  PrintsText text old new exit =
      ((exit ≡ 0) × TakesAll text (output old.output) (output new.output) × (new.errors ≡ old.errors))
      ⊎ ((exit ≡ 3) × TakesLess text (output old.output) (output new.output)
      × TakesAtMost output_failed (errors old.errors) (errors new.errors))

  -- standard error was called to take these lines, and standard output is unchanged
  abbrev pub PrintsLines : (lines : List ℕ) → (old new : Streams P E) → Type 0
  PrintsLines lines old new = (new.output ≡ old.output) × TakesAtMost (printed_lines lines) (errors old.errors) (errors new.errors)

  -- what a command left was printed: with the status 0 its text; else its lines, and the status is the exit status
  abbrev pub Prints : (left : World) → (status : ℕ) → (old new : Streams P E) → (exit : ℕ) → Type 0
  Prints left status old new exit =
      (status ≡ 0 → PrintsText left.text old new exit) × (status ≢ 0 → (exit ≡ status) × PrintsLines left.lines old new)

  -- what was left was printed, with a status for which `How` holds
  abbrev pub Exits : (How : (status : ℕ) → Type 0) → (left : World) → (old new : Streams P E) → (exit : ℕ) → Type 0
  Exits How left old new exit = (status : ℕ) × How status × Prints left status old new exit
