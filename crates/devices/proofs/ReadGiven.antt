-- The bytes left of those that an input reported at first, as it gives more.
use Rattle.std.proofs.Common.{◌≡◌, ℕ, ◌+◌, ◌≤◌, List, ◌++◌, length, take, drop, Option, Some, None, Result, Ok, Err, refl, sym, ◌∙◌, ap, subst, IfOk, OnErr}
use Rattle.std.proofs.Math.Seq.{drop-append_seam}
use Rattle.std.proofs.lemmas.List.{drop-drop, length-take-le}
use Rattle.std.specs.Io.KnownBytes.{Consumes, IsAtEnd}
use Rattle.devices.specs.feeds.Feed.{put_back}
use Rattle.devices.specs.feeds.FeedSteps.{remaining_after}
use Rattle.devices.specs.declared.feeds.feed.FeedFault.{FeedFault}
use Rattle.devices.specs.inner.ReadFeedFields.{HasGiven}

following : (all bytes rest : List ℕ) (n m : ℕ) → m ≡ n + length bytes → drop n all ≡ bytes ++ rest → rest ≡ drop m all
following all bytes rest n m more joined =
    sym (drop-append_seam bytes rest) ∙ ap (drop (length bytes)) (sym joined) ∙ drop-drop (length bytes) n all
    ∙ ap (λ i. drop i all) (sym more)

-- the input gave n of the bytes, and then these bytes were consumed
pub gave_more : (first old new : Option (List ℕ)) (n m : ℕ) (bytes : List ℕ) → m ≡ n + length bytes → HasGiven n first old
    → Consumes old new bytes → HasGiven m first new
gave_more None old new n m bytes more given consumed = tt
gave_more (Some all) old None n m bytes more given consumed = absurd (subst (λ o. Consumes o None bytes) given consumed)
gave_more (Some all) old (Some rest) n m bytes more given consumed =
    ap Some (following all bytes rest n m more (subst (λ o. Consumes o (Some rest) bytes) given consumed))

-- the bytes left before are these bytes, followed by the bytes left now
pub gave_back : (first old new : Option (List ℕ)) (n m : ℕ) (bytes : List ℕ) → HasGiven n first old → HasGiven m first new
    → Consumes old new bytes → remaining_after n first ≡ put_back bytes (remaining_after m first)
gave_back None old new n m bytes before after consumed = refl
gave_back (Some all) old new n m bytes before after consumed =
    ap Some (subst (λ o. Consumes o (Some (drop m all)) bytes) before (subst (λ o. Consumes old o bytes) after consumed))

pub put_back_consumes : (old new : Option (List ℕ)) (bytes : List ℕ) → old ≡ put_back bytes new → Consumes old new bytes
put_back_consumes None new bytes gave = tt
put_back_consumes (Some all) None bytes gave = absurd cc
put_back_consumes (Some all) (Some rest) bytes gave = cc

pub ends : (first now : Option (List ℕ)) (m : ℕ) → HasGiven m first now → IsAtEnd now → IsAtEnd (remaining_after m first)
ends None now m given end = tt
ends (Some all) now m given end = subst IsAtEnd given end

-- the bytes left after the given bytes
remaining_on : (first old new : Option (List ℕ)) (n m : ℕ) (bytes : List ℕ) → m ≡ n + length bytes → old ≡ remaining_after n first
    → old ≡ put_back bytes new → new ≡ remaining_after m first
remaining_on None old None n m bytes more stood gave = refl
remaining_on None old (Some rest) n m bytes more stood gave = let clash = sym stood ∙ gave in absurd cc
remaining_on (Some all) old None n m bytes more stood gave = let clash = sym stood ∙ gave in absurd cc
remaining_on (Some all) old (Some rest) n m bytes more stood gave =
    let same : Some (drop n all) ≡ Some (bytes ++ rest) = sym stood ∙ gave in let joined : drop n all ≡ bytes ++ rest = cc in
    ap Some (following all bytes rest n m more joined)

-- the bytes left after a pull, for every result
pub remaining_on_pull : (result : Result ℕ FeedFault) (first old new : Option (List ℕ)) (given given_now : ℕ) (buffer : List ℕ)
    → IfOk result (λ n. n ≤ length buffer) → IfOk result (λ n. old ≡ put_back (take n buffer) new) → OnErr result (new ≡ old)
    → IfOk result (λ n. given_now ≡ given + n) → OnErr result (given_now ≡ given) → old ≡ remaining_after given first
    → new ≡ remaining_after given_now first
remaining_on_pull (Ok n) first old new given given_now buffer within gives kept counts still stood =
    remaining_on first old new given given_now (take n buffer) (counts ∙ ap (λ k. given + k) (sym (length-take-le n buffer within))) stood gives
remaining_on_pull (Err fault) first old new given given_now buffer within gives kept counts still stood =
    kept ∙ stood ∙ ap (λ k. remaining_after k first) (sym still)
