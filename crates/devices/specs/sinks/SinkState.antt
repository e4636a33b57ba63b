-- The state of a sink, before and after a text was written to it.
use Rattle.std.specs.Prelude.{◌≡◌, ◌+◌, ◌<◌, ◌≤◌, ◌⊎◌, ℕ, List, length, take, Option, Bool, Result, IsTrue, IfOk, OnOk, OnErr}
use Rattle.devices.specs.Device.{added, holding, IsTakenPrefix}

pub record SinkState : Type 0 where
  -- whether it was begun
  pub begun : Bool
  -- the bytes before its text, which never change
  pub before : List ℕ
  -- the bytes of its text that it took since it was begun, if it reports them
  pub taken : Option (List ℕ)
  -- the number of calls that it refused so far
  pub failures : ℕ

-- the sink was begun, holds this text, and refused no call
pub record IsWritten (text : List ℕ) (old new : SinkState) : Type 0 where
  pub begun : IsTrue new.begun
  pub before : new.before ≡ old.before
  pub taken : new.taken ≡ holding text old.taken
  pub works : new.failures ≡ old.failures

-- its text is unchanged, and so is whether it was begun
pub record IsUntouched (old new : SinkState) : Type 0 where
  pub begun : new.begun ≡ old.begun
  pub taken : new.taken ≡ old.taken

-- it was begun, and holds a prefix of this text
pub record HoldsPrefix (text : List ℕ) (old new : SinkState) : Type 0 where
  pub begun : IsTrue new.begun
  pub taken : IsTakenPrefix new.taken (holding text old.taken)

-- the sink refused `more` calls. It is untouched, or it holds a prefix of the text
pub record IsCutOff (more : ℕ) (text : List ℕ) (old new : SinkState) : Type 0 where
  pub stands : IsUntouched old new ⊎ HoldsPrefix text old new
  pub before : new.before ≡ old.before
  pub fails : new.failures ≡ old.failures + more

-- the bytes before its text are unchanged, and so is whether it was begun
pub record IsBegunAsBefore (old new : SinkState) : Type 0 where
  pub begun : new.begun ≡ old.begun
  pub before : new.before ≡ old.before

-- it was called to take bytes. It returned the number that it took, or it failed, took none, and counted one more refused call
pub record IsPut {E : Type 0} (bytes : List ℕ) (old new : SinkState) (answer : Result ℕ E) : Type 0 where
  pub within : IfOk answer (λ n. n ≤ length bytes)
  pub some : IfOk answer (λ n. 0 < length bytes → 0 < n)
  pub takes : IfOk answer (λ n. new.taken ≡ added (take n bytes) old.taken)
  pub works : OnOk answer (new.failures ≡ old.failures)
  pub refused : OnErr answer (new.taken ≡ old.taken)
  pub fails : OnErr answer (new.failures ≡ old.failures + 1)
  pub still : IsBegunAsBefore old new
