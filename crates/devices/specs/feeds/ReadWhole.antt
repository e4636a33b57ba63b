-- A feed before and after it is read to its end.
use Rattle.std.specs.Prelude.{◌≡◌, ◌≢◌, ℕ, ◌+◌, ◌-◌, ◌<◌, ◌≤◌, List, [], length, Result, Err, IfErr, IfSome, IsTrue, OnOk}
use Rattle.devices.specs.feeds.FeedState.{FeedState}
use Rattle.devices.specs.feeds.FeedSteps.{remaining_after}
use Rattle.devices.specs.declared.feeds.slurp.SlurpFault.{SlurpFault}
use Rattle.devices.specs.declared.feeds.slurp.SlurpFault.TheVariants.{FeedFailed, TooLong, OutOfMemory}

-- the text of the feed: the bytes that it had left, if it reported them. It gave these bytes and no more, and refused no pull
pub record IsReadWhole (old new : FeedState) (text : List ℕ) : Type 0 where
  pub whole : IfSome old.remaining (λ bytes. text ≡ bytes)
  pub counts : new.given ≡ old.given + length text
  pub works : new.failures ≡ old.failures

-- the conditions for each error of reading
pub record FailsAsFed (limit : ℕ) (old new : FeedState) (fault : SlurpFault) : Type 0 where
  pub failed : fault ≡ FeedFailed → new.failures ≡ old.failures + 1
  pub failed_first : fault ≡ FeedFailed → new.given ≤ old.given + limit
  pub long : fault ≡ TooLong → IfSome old.remaining (λ bytes. limit < length bytes)
  pub long_counts : fault ≡ TooLong → new.given ≡ old.given + (limit + 1)
  pub long_works : fault ≡ TooLong → new.failures ≡ old.failures
  pub memory_works : fault ≡ OutOfMemory → new.failures ≡ old.failures
  pub memory_first : fault ≡ OutOfMemory → new.given ≤ old.given + limit

-- the effect of a call that reads a feed to its end, by its result: after `Ok` no byte is left, after an error its reason holds, and the
-- number of bytes read is bounded
pub record ReadsFeed {A : Type 0} (limit : ℕ) (old new : FeedState) (answer : Result A SlurpFault) : Type 0 where
  pub used_up : OnOk answer (IfSome new.remaining (λ bytes. bytes ≡ []))
  pub within : OnOk answer (new.given ≤ old.given + limit)
  pub works : OnOk answer (new.failures ≡ old.failures)
  pub refused : IfErr answer (FailsAsFed limit old new)
  pub sure : IsTrue old.is_sure → answer ≢ Err FeedFailed
  -- for every result
  pub onward : old.given ≤ new.given
  pub reads : new.given ≤ old.given + (limit + 1)
  pub stands : new.remaining ≡ remaining_after (new.given - old.given) old.remaining
  pub stays_sure : IsTrue old.is_sure → IsTrue new.is_sure
