-- What contracts see of a feed of an open file.
use Rattle.std.specs.Prelude.{ℕ, false, List, Option}
use Rattle.devices.specs.feeds.FeedState.{FeedState}

pub record FileFeedView : Type 0 where
  -- the path by which it was opened
  pub path : List ℕ
  -- the bytes that reads will give, if the file reports them; a file of the system does not
  pub remaining : Option (List ℕ)
  -- the number of bytes that it gave
  pub given : ℕ
  -- the number of pulls that it refused
  pub failures : ℕ

-- the state of the feed; any pull may fail
abbrev pub file_state : FileFeedView → FeedState
file_state f = record { remaining = f.remaining; given = f.given; failures = f.failures; is_sure = false }
