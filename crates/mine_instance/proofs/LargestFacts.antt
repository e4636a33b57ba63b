-- The position of the first largest number.
use Rattle.std.proofs.Common.{◌≡◌, ℕ, ◌<◌, true, false, get_or, length, map, sym, arith, ℤ, List, pos, ◌<ℤ◌, ◌≤ℤ◌, rules}
use Rattle.std.specs.Prelude.{int_le}
use Rattle.std.proofs.lemmas.Int.{ints}
use Rattle.std.proofs.lemmas.List.{get_or-map, length-map}
use Rattle.std.proofs.lemmas.List.Folds.{list_all_at}
use Rattle.std.proofs.lemmas.List.Sums.{position_or_len_is, list_all-from_AllPass}
use Rattle.std.proofs.lemmas.List.Elements.{All-from_get_or}
use Rattle.mine_instance.specs.Largest.{first_largest, is_largest}
use Rattle.mine_instance.specs.OfModel.{in_hundreds}

int_le-true : (m n : ℤ) → m ≤ℤ n → int_le m n ≡ true
int_le-true m n h = search rules

int_le-false : (m n : ℤ) → n <ℤ m → int_le m n ≡ false
int_le-false m n h = search rules

-- it is larger than the numbers before it, and no number is larger
pub first_is : (numbers : List ℤ) (best : ℕ) → best < length numbers
    → ((k : ℕ) → k < best → get_or numbers k (pos 0) <ℤ get_or numbers best (pos 0))
    → ((k : ℕ) → k < length numbers → get_or numbers k (pos 0) ≤ℤ get_or numbers best (pos 0))
    → best ≡ first_largest numbers
first_is numbers best within less most =
    sym (position_or_len_is (is_largest numbers) numbers best (pos 0) (omega arith)
    (λ k h. list_all_at (λ m. int_le m (get_or numbers k (pos 0))) numbers best (pos 0) within (int_le-false _ _ (less k h)))
    (λ _. list_all-from_AllPass (λ m. int_le m (get_or numbers best (pos 0))) numbers
    (All-from_get_or (λ m. int_le m (get_or numbers best (pos 0)) ≡ true) numbers (pos 0)
    (λ k h. int_le-true _ _ (most k h)))))

less_in_hundreds : (m n : ℤ) → m <ℤ n → in_hundreds m <ℤ in_hundreds n
less_in_hundreds m n h = omega (arith, ints)

most_in_hundreds : (m n : ℤ) → m ≤ℤ n → in_hundreds m ≤ℤ in_hundreds n
most_in_hundreds m n h = omega (arith, ints)

-- the same for cents, and for cents converted to units of 100 cents
pub first_in_hundreds : (cents : List ℤ) (best : ℕ) → best < length cents
    → ((k : ℕ) → k < best → get_or cents k (pos 0) <ℤ get_or cents best (pos 0))
    → ((k : ℕ) → k < length cents → get_or cents k (pos 0) ≤ℤ get_or cents best (pos 0))
    → best ≡ first_largest (map in_hundreds cents)
first_in_hundreds cents best within less most =
    let values = map in_hundreds cents in
    let count : length values ≡ length cents = length-map cents in_hundreds in
    let at : (k : ℕ) → k < length cents → get_or values k (pos 0) ≡ in_hundreds (get_or cents k (pos 0)) =
    λ k h. get_or-map in_hundreds cents k (pos 0) (pos 0) h in
    first_is values best (omega arith)
    (λ k h. rw (at k (omega arith), at best within) (less_in_hundreds _ _ (less k h)))
    (λ k h. rw (at k (omega arith), at best within) (most_in_hundreds _ _ (most k (omega arith))))
