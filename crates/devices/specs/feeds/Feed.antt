-- A feed before and after one pull: the bytes that it has left, the bytes that it gave, and the pulls that it refused.
use Rattle.std.specs.Prelude.{◌≡◌, ℕ, ◌+◌, List, ◌++◌, Option, option_map, Result, IsTrue, IsOk, IfOk, OnOk, OnErr}
use Rattle.devices.specs.feeds.FeedState.{FeedState}

-- the bytes left before the feed gave `given`: these bytes, followed by the bytes left now. A feed that reports no bytes reports none
-- later
abbrev pub put_back : List ℕ → Option (List ℕ) → Option (List ℕ)
put_back given remaining = option_map (λ rest. given ++ rest) remaining

-- after success, the given bytes are counted; after an error, no byte was given, and one more refused pull is counted. An infallible feed
-- never fails
pub record IsPulled {E : Type 0} (old new : FeedState) (answer : Result ℕ E) : Type 0 where
  pub counts : IfOk answer (λ n. new.given ≡ old.given + n)
  pub works : OnOk answer (new.failures ≡ old.failures)
  pub refused_remaining : OnErr answer (new.remaining ≡ old.remaining)
  pub refused_given : OnErr answer (new.given ≡ old.given)
  pub fails : OnErr answer (new.failures ≡ old.failures + 1)
  pub sure : IsTrue old.is_sure → IsOk answer
  pub stays_sure : IsTrue old.is_sure → IsTrue new.is_sure
