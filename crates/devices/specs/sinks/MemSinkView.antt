-- What contracts see of a sink in memory: the bytes that it took, and the call that fails.
use Rattle.std.specs.Prelude.{◌≡◌, ℕ, ◌+◌, ◌≤◌, List, [], min, Bool, false}

pub record MemSinkView : Type 0 where
  pub begun : Bool
  -- the bytes taken since it was begun
  pub bytes : List ℕ
  -- the number of bytes that it can hold without allocating memory
  pub room : ℕ
  -- the largest number of bytes that one put takes
  pub step : ℕ
  -- the number of the call that fails, counted from 1, or 0 if none does
  pub failing : ℕ
  -- the number of calls so far, counted up to the failing one
  pub calls : ℕ
  -- the number of calls that failed: that one, and calls whose memory was refused
  pub failures : ℕ

-- a sink that was not called yet; one put takes at most `most` bytes, and the `nth` call fails
pub record IsFresh (most nth : ℕ) (t : MemSinkView) : Type 0 where
  pub begun : t.begun ≡ false
  pub bytes : t.bytes ≡ []
  pub step : t.step ≡ most
  pub failing : t.failing ≡ nth
  pub calls : t.calls ≡ 0
  pub failures : t.failures ≡ 0

-- the next call is the one that fails
abbrev pub FailsNext : MemSinkView → Type 0
FailsNext t = t.calls + 1 ≡ t.failing

-- the sink after one more call: whether it is begun, the bytes that it holds, and the number of calls that failed
pub record IsCalled (is_begun : Bool) (held : List ℕ) (failed : ℕ) (old new : MemSinkView) : Type 0 where
  pub begun : new.begun ≡ is_begun
  pub bytes : new.bytes ≡ held
  pub room : old.room ≤ new.room
  pub step : new.step ≡ old.step
  pub failing : new.failing ≡ old.failing
  pub calls : new.calls ≡ min (old.calls + 1) old.failing
  pub failures : new.failures ≡ failed

-- the call failed: the sink is unchanged, except for one more failure
abbrev pub HasFailed : (old new : MemSinkView) → Type 0
HasFailed old new = IsCalled old.begun old.bytes (old.failures + 1) old new
