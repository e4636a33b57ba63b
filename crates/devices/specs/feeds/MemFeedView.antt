-- What contracts see of a feed of bytes in memory: the bytes left, and the pull that fails.
use Rattle.std.specs.Prelude.{ℕ, ◌+◌, List, length, drop, min, Bool, ◌==◌, nat_lt, nat_le, ◌&&◌, if◌then◌else◌}

pub record MemFeedView : Type 0 where
  -- the bytes that are left
  pub remaining : List ℕ
  -- the number of bytes that it gave
  pub given : ℕ
  -- the largest number of bytes that a pull gives
  pub step : ℕ
  -- the number of the pull that fails, counted from 1, or 0 if none does
  pub failing : ℕ
  -- the number of pulls so far, counted up to the failing one
  pub pulls : ℕ

-- a feed that was not pulled yet
abbrev pub fresh : List ℕ → (step failing : ℕ) → MemFeedView
fresh bytes step failing = record { remaining = bytes; given = 0; step = step; failing = failing; pulls = 0 }

-- the number of bytes that a pull gives to a buffer of this length, if it does not fail
abbrev pub pull_count : MemFeedView → ℕ → ℕ
pull_count s room = min (min room s.step) (length s.remaining)

-- the feed after one more pull, which gave n bytes
abbrev pub after_pull : MemFeedView → ℕ → MemFeedView
after_pull s n =
    record { remaining = drop n s.remaining; given = s.given + n; step = s.step; failing = s.failing; pulls = min (s.pulls + 1) s.failing }

-- no pull fails
abbrev pub never_fails : MemFeedView → Bool
never_fails s = s.failing == 0

-- the number of pulls that failed: one, after that pull
abbrev pub failures_of : MemFeedView → ℕ
failures_of s = if nat_lt 0 s.failing && nat_le s.failing s.pulls then 1 else 0
