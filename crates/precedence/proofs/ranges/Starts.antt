-- The start of the numbers from a target on, in an ascending list.
use Rattle.std.proofs.Common.{◌≡◌, ℕ, zero, suc, ◌+◌, ◌<◌, ◌≤◌, Bool, List, length, take, get_or, min, nat_lt, count_by, sym, ap, ◌∙◌, arith, ⊎_elim}
use Rattle.std.specs.List.{prefix_len}
use Rattle.std.specs.List.Sorted.{IsStrictlyIncreasing}
use Rattle.std.proofs.lemmas.Bool.{cases_lt, lt-ltb, le-ltb, ltb-true, ltb-false}
use Rattle.std.proofs.lemmas.List.{take_all}
use Rattle.std.proofs.lemmas.List.Kept.{AllPairs-from_increasing}
use Rattle.std.proofs.lemmas.List.Sums.{count_by_more_no, count_by_more_yes, prefix_len-le-length, prefix_len_passes, prefix_len_stops}
use Rattle.precedence.specs.inner.Rows.{start_of}

-- a later number is not smaller
pub no_less : (cs : List ℕ) (a b : ℕ) → IsStrictlyIncreasing cs → a ≤ b → b < length cs → get_or cs a 0 ≤ get_or cs b 0
no_less cs a b rising le lt = ⊎_elim
    (λ below. omega (arith, AllPairs-from_increasing cs rising a b 0 below lt))
    (λ no. let same : a ≡ b = omega arith in omega (arith, ap (λ n. get_or cs n 0) same))
    (cases_lt a b)

pub start_within : (t : ℕ) (cs : List ℕ) → start_of t cs ≤ length cs
start_within t cs = prefix_len-le-length (λ c. nat_lt c t) cs

-- a number before the start is below the target, and every later number is not
pub start_before_in : (t k : ℕ) (cs : List ℕ) → k < start_of t cs → get_or cs k 0 < t
start_before_in t k cs lt = ltb-true _ _ (prefix_len_passes (λ c. nat_lt c t) cs k 0 (omega arith))

pub from_start : (t k : ℕ) (cs : List ℕ) → IsStrictlyIncreasing cs → start_of t cs ≤ k → k < length cs → t ≤ get_or cs k 0
from_start t k cs rising le lt =
    let first = ltb-false _ _ (prefix_len_stops (λ c. nat_lt c t) cs 0 (omega arith)) in
    omega (arith, first, no_less cs (prefix_len (λ c. nat_lt c t) cs) k rising (omega arith) lt)

-- so a number below the target is before the start, and a number not below is at the start or later
pub start_after : (t k : ℕ) (cs : List ℕ) → IsStrictlyIncreasing cs → k < length cs → get_or cs k 0 < t → k + 1 ≤ start_of t cs
start_after t k cs rising lt below = ⊎_elim
    (λ less. omega arith)
    (λ le. absurd (omega (arith, from_start t k cs rising le lt)))
    (cases_lt k (start_of t cs))

pub start_before : (t k : ℕ) (cs : List ℕ) → k < length cs → t ≤ get_or cs k 0 → start_of t cs ≤ k
start_before t k cs lt above = ⊎_elim
    (λ less. absurd (omega (arith, start_before_in t k cs less)))
    (λ le. le)
    (cases_lt k (start_of t cs))

pub start_grows : (t u : ℕ) (cs : List ℕ) → IsStrictlyIncreasing cs → t ≤ u → start_of t cs ≤ start_of u cs
start_grows t u cs rising le = ⊎_elim
    (λ less.
    let low = start_before_in t (start_of u cs) cs less in
    absurd (omega (arith, low, from_start u (start_of u cs) cs rising (omega arith) (omega (arith, start_within t cs)))))
    (λ no. no)
    (cases_lt (start_of u cs) (start_of t cs))

-- in an ascending list, k numbers are below the number at index k
pub count_below : (xs : List ℕ) (k : ℕ) → IsStrictlyIncreasing xs → k < length xs → count_by (λ c. nat_lt c (get_or xs k 0)) xs ≡ k
count_below xs k rising within =
    ap (count_by below) (sym (take_all (length xs) xs (omega arith))) ∙ (let all = so_far (length xs) (omega arith) in omega arith)
  where
    below : ℕ → Bool
    below c = nat_lt c (get_or xs k 0)

    so_far : (i : ℕ) → i ≤ length xs → count_by below (take i xs) ≡ min i k
    so_far zero le = omega arith
    so_far (suc i) le =
        let more : suc i ≡ i + 1 = omega arith in
        let one = ap (λ n. count_by below (take n xs)) more in
        let before = so_far i (omega arith) in
        ⊎_elim
        (λ first.
        let yes = lt-ltb _ _ (AllPairs-from_increasing xs rising i k 0 first within) in
        omega (arith, one, before, count_by_more_yes below xs i 0 (omega arith) yes))
        (λ later.
        let no = le-ltb _ _ (no_less xs k i rising later (omega arith)) in
        omega (arith, one, before, count_by_more_no below xs i 0 (omega arith) no))
        (cases_lt i k)

pub ruleset starts = (start_after, start_before, start_within)

pub ruleset ranges = (start_grows, start_within, start_before_in)
