-- Bytes that a feed gave, into a buffer or to be dropped, and the feed's state then.
use Rattle.std.proofs.Common.{◌≡◌, ℕ, ◌+◌, ◌-◌, ◌≤◌, List, ◌++◌, length, refl, sym, ap, ◌∙◌, arith, Option, Some, None, Result, Ok, Err, IfOk, OnErr}
use Rattle.std.proofs.Math.Seq.{drop-append_seam}
use Rattle.std.proofs.lemmas.List.{drop-drop, length-append}
use Rattle.devices.specs.feeds.FeedState.{FeedState}
use Rattle.devices.specs.declared.feeds.slurp.SlurpFault.{SlurpFault}
use Rattle.devices.specs.feeds.Feed.{put_back}
use Rattle.devices.specs.feeds.FeedSteps.{remaining_after}
use Rattle.devices.proofs.Giving.{put_back-append}
use Rattle.text_lines.specs.inner.Waiting.{Gave, Held, WaitingView}

-- dropped bytes, and more of them
pub gave_more : (n k m : ℕ) (w v : WaitingView) (old remaining new : Option (List ℕ)) → Gave n old remaining → Held k w v remaining new → m ≡ n + k
    → Gave m old new
gave_more n k m w v old remaining new gave held more = record {
  bytes = gave.bytes ++ held.bytes;
  count = rw (length-append gave.bytes held.bytes) (omega (arith, gave.count, held.count, more));
  remaining = gave.remaining ∙ ap (put_back gave.bytes) held.remaining ∙ put_back-append gave.bytes held.bytes new;
}

after_put : (bytes : List ℕ) (old new : Option (List ℕ)) → old ≡ put_back bytes new → new ≡ remaining_after (length bytes) old
after_put bytes old None gave = rw gave refl
after_put bytes old (Some rest) gave = rw gave (ap Some (sym (drop-append_seam bytes rest)))

after_none : (remaining : Option (List ℕ)) → remaining ≡ remaining_after 0 remaining
after_none None = refl
after_none (Some bytes) = refl

-- before a pull
pub stands_first : (given : ℕ) (remaining : Option (List ℕ)) → remaining ≡ remaining_after (given - given) remaining
stands_first given remaining =
    let none : 0 ≡ given - given = omega arith in
    after_none remaining ∙ ap (λ k. remaining_after k remaining) none

-- after a pull, for every result
pub pulled : (result : Result ℕ SlurpFault) (w v : WaitingView) (old new : Option (List ℕ)) (given given_now : ℕ)
    → IfOk result (λ n. Held n w v old new) → IfOk result (λ n. given_now ≡ given + n)
    → OnErr result (new ≡ old) → OnErr result (given_now ≡ given) → new ≡ remaining_after (given_now - given) old
pulled (Ok n) w v old new given given_now held counts kept still =
    let more : length held.bytes ≡ given_now - given = omega (arith, counts, held.count) in
    after_put held.bytes old new held.remaining ∙ ap (λ k. remaining_after k old) more
pulled (Err fault) w v old new given given_now held counts kept still =
    let none : 0 ≡ given_now - given = omega (arith, still) in
    kept ∙ after_none old ∙ ap (λ k. remaining_after k old) none

after_both : (n k : ℕ) (remaining : Option (List ℕ)) → remaining_after k (remaining_after n remaining) ≡ remaining_after (n + k) remaining
after_both n k None = refl
after_both n k (Some bytes) = ap Some (drop-drop k n bytes)

-- a feed after some bytes, and after more of them
pub stands_on : (first mid last : FeedState) → first.given ≤ mid.given → mid.given ≤ last.given
    → mid.remaining ≡ remaining_after (mid.given - first.given) first.remaining
    → last.remaining ≡ remaining_after (last.given - mid.given) mid.remaining
    → last.remaining ≡ remaining_after (last.given - first.given) first.remaining
stands_on first mid last before following stood stands =
    let n = mid.given - first.given in
    let k = last.given - mid.given in
    let all : n + k ≡ last.given - first.given = omega (arith, before, following) in
    stands ∙ ap (remaining_after k) stood ∙ after_both n k first.remaining ∙ ap (λ m. remaining_after m first.remaining) all
