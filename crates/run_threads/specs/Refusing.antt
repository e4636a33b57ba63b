-- Feeds that refused a pull.
use Rattle.std.specs.Prelude.{◌≡◌, ℕ, ◌+◌, false, List, slice_get, Some}
use Rattle.devices.specs.feeds.FeedState.{FeedState}

-- `state` is the ghost member of a feed
module _ {F : Type 0} (state : F → FeedState) where
  -- the feed is one that may fail, and in a later state, `now`, it has refused one more pull
  pub record HasRefused (feed : F) : Type 0 where
    pub unsure : (state feed).is_sure ≡ false
    pub now : F
    pub refused : (state now).failures ≡ (state feed).failures + 1

  -- the feed of this file has refused a pull
  pub record HasFailed (feeds : List F) (file : ℕ) : Type 0 where
    pub feed : F
    pub stands : slice_get feeds file ≡ Some feed
    pub refused : HasRefused feed
