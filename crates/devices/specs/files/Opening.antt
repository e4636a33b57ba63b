-- The files that were requested by their paths, in order.
use Rattle.std.specs.Prelude.{◌≡◌, ℕ, List, [], ◌∷◌, ◌++◌, Option}
use Rattle.devices.specs.feeds.FeedState.{FeedState}

-- a file was opened, with the bytes that it reported, if any; or it could not be opened
pub data Opening : Type 0 where
  Opened : List ℕ → Option (List ℕ) → Opening
  Unopened : List ℕ → Opening

-- the files at these paths were opened, each with the bytes that it reported
abbrev pub all_opened : List (List ℕ) → List (Option (List ℕ)) → List Opening
all_opened [] remainders = []
all_opened (path ∷ paths) [] = []
all_opened (path ∷ paths) (remaining ∷ remainders) = Opened path remaining ∷ all_opened paths remainders

-- the file at this path was opened, and no other, with a feed in this state, which gave no byte and refused no pull
pub record OpensFeed (path : List ℕ) (old new : List Opening) (feed : FeedState) : Type 0 where
  pub opened : new ≡ old ++ Opened path feed.remaining ∷ []
  pub given : feed.given ≡ 0
  pub failures : feed.failures ≡ 0
