-- The bytes that a feed has left after some steps, and the buffer that they filled.
use Rattle.std.specs.Prelude.{◌≡◌, ℕ, ◌+◌, List, ◌++◌, length, take, drop, Option, option_map}
use Rattle.devices.specs.feeds.Feed.{put_back}

-- the bytes left after the feed gave n bytes
abbrev pub remaining_after : ℕ → Option (List ℕ) → Option (List ℕ)
remaining_after n remaining = option_map (λ bytes. drop n bytes) remaining

-- a feed gave n bytes, which follow the first `filled` bytes of a buffer
pub record GaveAfter (n filled : ℕ) (old new : List ℕ) (remaining_old remaining_new : Option (List ℕ)) : Type 0 where
  pub bytes : List ℕ
  pub count : length bytes ≡ n
  pub following : take (filled + n) new ≡ take filled old ++ bytes
  pub remaining : remaining_old ≡ put_back bytes remaining_new
