-- The threads that a run starts.
use Rattle.std.specs.Prelude.{◌≡◌, ℕ, ◌⊎◌, Result, IfOk, IfErr}
use Rattle.pit_units.specs.declared.or_memory.OrMemory.{OrMemory}
use Rattle.pit_units.specs.declared.or_memory.OrMemory.TheVariants as hand_over
use Rattle.run_threads.specs.Starts.{StartsView, AreSettled, AreSpent, AreTooFew}
use Rattle.run_threads.specs.declared.handing_over.NoThread.{NoThread as ARefusedStart}
use Rattle.refusals.specs.declared.refusal.Refusal.{Refusal}
use Rattle.refusals.specs.declared.refusal.Refusal.TheVariants.{Settings, NoThread, FeedFailed, TooLong, Row, Same, SinkFailed, OutOfMemory}

-- the error of a run whose threads handed nothing over
abbrev pub refused_start : OrMemory ARefusedStart → Refusal
refused_start (hand_over.Fault refused) = NoThread
refused_start hand_over.OutOfMemory = OutOfMemory

-- the thread starts before and after a run that needs `count` threads, for each error. Wrong settings: no start was tried. NoThread: a
-- start was refused before all threads ran. A fault of a file or a sink: all threads ran. OutOfMemory: none or all
abbrev pub AreStartsOf : ℕ → StartsView → StartsView → Refusal → Type 0
AreStartsOf count old new (Settings kind) = new ≡ old
AreStartsOf count old new NoThread = AreTooFew count new
AreStartsOf count old new (FeedFailed file) = AreSpent count new
AreStartsOf count old new (TooLong file) = AreSpent count new
AreStartsOf count old new (Row file fault) = AreSpent count new
AreStartsOf count old new (Same first again) = AreSpent count new
AreStartsOf count old new (SinkFailed which) = AreSpent count new
AreStartsOf count old new OutOfMemory = (new ≡ old) ⊎ AreSpent count new

-- the thread starts before and after a run that needs `count` threads, for what it returns
pub record SpendsStarts {A : Type 0} (count : ℕ) (old new : StartsView) (answer : Result A Refusal) : Type 0 where
  pub started : IfOk answer (λ _. AreSpent count new)
  pub short : IfErr answer (AreStartsOf count old new)
  pub settled : AreSettled old new
