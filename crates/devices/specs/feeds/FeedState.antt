-- The state of a feed.
use Rattle.std.specs.Prelude.{ℕ, Bool, List, Option, map}

pub record FeedState : Type 0 where
  -- the bytes that it has left, if it reports them
  pub remaining : Option (List ℕ)
  -- the number of bytes that it gave so far
  pub given : ℕ
  -- the number of pulls that it refused so far
  pub failures : ℕ
  -- whether it never fails, now or later
  pub is_sure : Bool

-- a feed that was not pulled yet
abbrev pub not_pulled : Bool → Option (List ℕ) → FeedState
not_pulled is_sure remaining = record { remaining = remaining; given = 0; failures = 0; is_sure = is_sure }

-- the bytes that each of these feeds has left, if it reports them
abbrev pub all_remaining : {F : Type 0} → (F → FeedState) → List F → List (Option (List ℕ))
all_remaining state feeds = map (λ feed. (state feed).remaining) feeds
