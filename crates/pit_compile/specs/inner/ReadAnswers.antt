-- The results of the readers, as the error of the run.
use Rattle.std.specs.Prelude.{ℕ, ◌+◌, List, [], ◌∷◌, Option, Some, None, Ok, Err}
use Rattle.std.specs.Option.{option_or}
use Rattle.devices.specs.declared.feeds.fed_fault.FedFault.TheVariants.{Unread, Text}
use Rattle.devices.specs.declared.feeds.slurp.SlurpFault.TheVariants as slurp
use Rattle.run_threads.specs.Reading.{ReadAnswer}
use Rattle.refusals.specs.declared.refusal.Refusal.{Refusal}
use Rattle.refusals.specs.declared.refusal.Refusal.TheVariants.{FeedFailed, TooLong, Row, OutOfMemory}

-- why a file was not read to its end, if it was not
abbrev pub refusal_of : ℕ → ReadAnswer → Option Refusal
refusal_of file (Ok done) = None
refusal_of file (Err (Text fault)) = Some (Row file fault)
refusal_of file (Err (Unread slurp.FeedFailed)) = Some (FeedFailed file)
refusal_of file (Err (Unread slurp.TooLong)) = Some (TooLong file)
refusal_of file (Err (Unread slurp.OutOfMemory)) = Some OutOfMemory

-- why the first of these files that was not read to its end was not; the first file has number n
abbrev pub refusal_in : ℕ → List ReadAnswer → Option Refusal
refusal_in n [] = None
refusal_in n (answer ∷ answers) = option_or (refusal_of n answer) (refusal_in (n + 1) answers)
