-- Inserting a limit in order keeps the properties of a list of limits.
use Rattle.std.proofs.Common.{◌≡◌, ◌≤◌, List, [], ◌∷◌, Bool, true, false, not, suc, arith, refl, ap, subst, length, nat_lt, All, unwrap_or}
use Rattle.std.specs.Prelude.{IsTrue}
use Rattle.std.specs.List.{list_any, insert, position, position_or_len}
use Rattle.std.proofs.lemmas.Bool.Decides.{nat_tests}
use Rattle.std.proofs.Math.Numerals.{one-add}
use Rattle.std.proofs.lemmas.List.Elements.{All-nil, All-cons, All-weaker}
use Rattle.std.proofs.lemmas.List.Kept.{AllPairs-cons}
use Rattle.std.proofs.lemmas.List.Sorted.{All-permutation, IsPermutation-insert}
use Rattle.std.specs.List.Sorted.{IsPermutation}
use Rattle.std.proofs.lemmas.List.Sums.{prefix_len-le-length}
use Rattle.std.proofs.lemmas.Bool.{or_parts}
use Rattle.plan_parts.specs.PlanInvariant.{stands_before, RiseStrictly}
use Rattle.pit_model.specs.Stated.{with_limit, is_same_place}
use Rattle.plan_parts.specs.declared.limit.Limit.{Limit}

pub placed : {X : Type 0} (p : X → Bool) (xs : List X) → unwrap_or (position p xs) (length xs) ≡ position_or_len p xs
placed p xs = by_test (nat_lt (position_or_len p xs) (length xs)) refl
  where
    by_test : (b : Bool) → nat_lt (position_or_len p xs) (length xs) ≡ b → unwrap_or (position p xs) (length xs) ≡ position_or_len p xs
    by_test true e = rw e refl
    by_test false e =
        let least : length xs ≤ position_or_len p xs = grind (arith, nat_tests) in
        let same : length xs ≡ position_or_len p xs = omega (arith, prefix_len-le-length (λ x. not (p x)) xs) in
        rw e same

-- inserting a limit before the first one that it must precede is `with_limit`
pub inserted : (l : Limit) (ms : List Limit) → insert ms (position_or_len (λ m. stands_before l m) ms) l ≡ with_limit l ms
inserted l [] = refl
inserted l (m ∷ ms) = by_test (inserted l ms) (stands_before l m) refl
  where
    by_test : insert ms (position_or_len (λ k. stands_before l k) ms) l ≡ with_limit l ms → (b : Bool) → stands_before l m ≡ b
        → insert (m ∷ ms) (position_or_len (λ k. stands_before l k) (m ∷ ms)) l ≡ with_limit l (m ∷ ms)
    by_test more true e = rw e refl
    by_test more false e = rw (e, one-add) (ap (λ rest. m ∷ rest) more)

trans : (a b c : Limit) → stands_before a b ≡ true → stands_before b c ≡ true → stands_before a c ≡ true
trans a b c h k = grind (arith, nat_tests)

after : (l m : Limit) → stands_before l m ≡ false → is_same_place l m ≡ false → stands_before m l ≡ true
after l m h k = grind (arith, nat_tests)

-- no limit is lost, so a property of the new and the old limits is a property of all
pub with_limit_keeps : (l : Limit) (ms : List Limit) → IsPermutation (l ∷ ms) (with_limit l ms)
with_limit_keeps l ms =
    subst (IsPermutation (l ∷ ms)) (inserted l ms) (IsPermutation-insert ms (position_or_len (λ m. stands_before l m) ms) l)

pub All-with_limit : (P : Limit → Type 0) (l : Limit) (ms : List Limit) → P l → All P ms → All P (with_limit l ms)
All-with_limit P l ms here all = All-permutation P (l ∷ ms) (with_limit l ms) (with_limit_keeps l ms) (All-cons P l ms here all)

abbrev before : Limit → Limit → Type 0
before l m = IsTrue (stands_before l m)

-- of limits that rise, the first precedes all others, and they rise
pub first_rises : (l : Limit) (ls : List Limit) → RiseStrictly (l ∷ ls) → All (λ m. stands_before l m ≡ true) ls
first_rises l ls up k d within = up 0 (suc k) d (omega arith) (omega arith)

pub rest_rises : (l : Limit) (ls : List Limit) → RiseStrictly (l ∷ ls) → RiseStrictly ls
rest_rises l ls up i j d before within = up (suc i) (suc j) d (omega arith) (omega arith)

pub rises : (l : Limit) (ms : List Limit) → RiseStrictly ms → list_any (λ m. is_same_place l m) ms ≡ false → RiseStrictly (with_limit l ms)
rises l [] up none = AllPairs-cons before l [] (All-nil (λ m. stands_before l m ≡ true)) up
rises l (m ∷ ms) up none =
    by_test (rises l ms (rest_rises m ms up) others.1) (stands_before l m) refl
  where
    others : (is_same_place l m ≡ false) × (list_any (λ k. is_same_place l k) ms ≡ false)
    others = or_parts _ _ none

    by_test : RiseStrictly (with_limit l ms) → (b : Bool) → stands_before l m ≡ b → RiseStrictly (with_limit l (m ∷ ms))
    by_test more true e =
        rw e (AllPairs-cons before l (m ∷ ms)
        (All-cons (λ k. stands_before l k ≡ true) m ms e
        (All-weaker (λ k. stands_before m k ≡ true) (λ k. stands_before l k ≡ true) (λ k h. trans l m k e h) ms (first_rises m ms up)))
        up)
    by_test more false e =
        rw e (AllPairs-cons before m (with_limit l ms)
        (All-with_limit (λ k. stands_before m k ≡ true) l ms (after l m e others.0) (first_rises m ms up)) more)
