-- What contracts see of a feed of an input, such as standard input.
use Rattle.std.specs.Prelude.{ℕ, false, List, Option}
use Rattle.devices.specs.feeds.FeedState.{FeedState}

pub record ReadFeedView : Type 0 where
  -- the bytes that reads will give, if the input reports them; an input of the system does not
  pub remaining : Option (List ℕ)
  -- the number of bytes that it gave
  pub given : ℕ
  -- the number of pulls that it refused
  pub failures : ℕ

-- the state of the feed; any pull may fail
abbrev pub input_state : ReadFeedView → FeedState
input_state f = record { remaining = f.remaining; given = f.given; failures = f.failures; is_sure = false }
