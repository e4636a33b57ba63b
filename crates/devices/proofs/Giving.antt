-- The bytes that a feed has left, as it gives more.
use Rattle.std.proofs.Common.{◌≡◌, ℕ, ◌+◌, ◌≤◌, List, ◌++◌, length, take, Option, Some, None, Result, Ok, Err, refl, sym, ◌∙◌, ap, append_assoc, [], arith, IfOk, IfSome}
use Rattle.std.proofs.lemmas.List.{length-take-le, take-append-le}
use Rattle.std.proofs.Math.Seq.{take-append-add}
use borrow.Rule.Slice.PartMut.{put_mid, post_of}
use Rattle.std.specs.Io.KnownBytes.{IsAtEnd}
use Rattle.devices.specs.feeds.Feed.{put_back}
use Rattle.devices.specs.feeds.FeedSteps.{GaveAfter}
use Rattle.devices.specs.declared.feeds.feed.FeedFault.{FeedFault}

-- bytes put back in two steps
pub put_back-append : (a b : List ℕ) (remaining : Option (List ℕ)) → put_back a (put_back b remaining) ≡ put_back (a ++ b) remaining
put_back-append a b None = refl
put_back-append a b (Some rest) = ap Some (sym (append_assoc a b rest))

-- given bytes after the bytes in hand
pub given_more : (n filled : ℕ) (old new : List ℕ) (first remaining_old remaining_new : Option (List ℕ)) → first ≡ put_back (take filled old) remaining_old
    → GaveAfter n filled old new remaining_old remaining_new → first ≡ put_back (take (filled + n) new) remaining_new
given_more n filled old new first remaining_old remaining_new given gave =
    given ∙ ap (put_back (take filled old)) gave.remaining ∙ put_back-append (take filled old) gave.bytes remaining_new
    ∙ ap (λ bytes. put_back bytes remaining_new) (sym gave.following)

written : (filled k n : ℕ) (old new : List ℕ) → filled ≤ length old → n ≤ length new
    → take (filled + n) (put_mid filled k old new) ≡ take filled old ++ take n new
written filled k n old new within fits =
    let prefix : length (take filled old) ≡ filled = length-take-le filled old within in
    ap (λ m. take (m + n) (take filled old ++ (new ++ post_of filled k old))) (sym prefix)
    ∙ take-append-add (take filled old) (new ++ post_of filled k old) n
    ∙ ap (λ bytes. take filled old ++ bytes) (take-append-le n new (post_of filled k old) fits)

-- a pull into the middle of a buffer
pub gave_after : (result : Result ℕ FeedFault) (filled k room : ℕ) (old new : List ℕ) (remaining_old remaining_new : Option (List ℕ))
    → filled ≤ length old → length new ≡ room → IfOk result (λ n. n ≤ room)
    → IfOk result (λ n. remaining_old ≡ put_back (take n new) remaining_new)
    → IfOk result (λ n. GaveAfter n filled old (put_mid filled k old new) remaining_old remaining_new)
gave_after (Ok n) filled k room old new remaining_old remaining_new within size fits gives =
    let some : n ≤ length new = omega (arith, size, fits) in
    record { bytes = take n new; count = length-take-le n new some; following = written filled k n old new within some; remaining = gives }
gave_after (Err fault) filled k room old new remaining_old remaining_new within size fits gives = tt

-- if no byte was consumed and none is left, none was left before
pub none_remaining : (old new : Option (List ℕ)) (bytes : List ℕ) → old ≡ put_back (take 0 bytes) new → IsAtEnd new
    → IfSome old (λ remaining. remaining ≡ [])
none_remaining None new bytes given end = tt
none_remaining (Some all) None bytes given end = absurd cc
none_remaining (Some all) (Some rest) bytes given end = let same : Some all ≡ Some rest = given in let e : all ≡ rest = cc in e ∙ end
