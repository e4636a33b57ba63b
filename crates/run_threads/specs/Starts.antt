-- What contracts see of thread starts, and what a run does to them.
use Rattle.std.specs.Prelude.{◌≡◌, ℕ, ◌+◌, ◌-◌, ◌<◌, ◌≤◌, Bool, true, false, Result, IfOk, IfErr}
use Rattle.pit_units.specs.declared.or_memory.OrMemory.{OrMemory}
use Rattle.pit_units.specs.declared.or_memory.OrMemory.TheVariants.{Fault, OutOfMemory}
use Rattle.run_threads.specs.declared.handing_over.NoThread.{NoThread}

-- the number of threads that may be started, that were started, that were started as readers, and that were joined, the number of marks
-- that were sent to valuers to end them, and whether a start was refused
pub record StartsView : Type 0 where
  pub allowed : ℕ
  pub spent : ℕ
  pub readers : ℕ
  pub joined : ℕ
  pub marks : ℕ
  pub refused : Bool

-- no thread was started yet
abbrev pub none_spent : ℕ → StartsView
none_spent allowed = record { allowed = allowed; spent = 0; readers = 0; joined = 0; marks = 0; refused = false }

-- `count` threads were started, and no start was refused. `AreSettled` states that each was joined
abbrev pub AreSpent : ℕ → StartsView → Type 0
AreSpent count starts = (starts.spent ≡ count) × (starts.refused ≡ false)

-- the valuers are started first: exactly the threads after these are readers
abbrev pub IsInOrder : ℕ → StartsView → Type 0
IsInOrder valuers starts = starts.readers ≡ starts.spent - valuers

-- no more threads were started than allowed, a mark was sent to each valuer that was started, and each thread was joined
pub record AreSettled (old new : StartsView) : Type 0 where
  pub allowed : new.allowed ≡ old.allowed
  pub within : new.spent ≤ old.allowed
  pub marked : new.marks + new.readers ≡ new.spent
  pub joined : new.joined ≡ new.spent

-- a start was refused before `count` threads were started
abbrev pub AreTooFew : ℕ → StartsView → Type 0
AreTooFew count starts = (starts.refused ≡ true) × (starts.spent < count)

-- the starts of a run that needs `count` threads and returns an error: one start was refused, or none was tried
abbrev pub AreShort : ℕ → StartsView → StartsView → OrMemory NoThread → Type 0
AreShort count old new (Fault refused) = AreTooFew count new
AreShort count old new OutOfMemory = new ≡ old

-- the starts before and after a run with one thread for each valuer and for each file, for what it returns
pub record StartsThreads {A : Type 0} (valuers files : ℕ) (old new : StartsView) (answer : Result A (OrMemory NoThread)) : Type 0 where
  pub budget : IfOk answer (λ _. valuers + files ≤ old.allowed)
  pub started : IfOk answer (λ _. AreSpent (valuers + files) new)
  pub short : IfErr answer (AreShort (valuers + files) old new)
  pub order : IsInOrder valuers new
  pub settled : AreSettled old new
