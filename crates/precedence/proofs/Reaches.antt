-- Bounds of the products; a reach that covers a distance covers every smaller one.
use Rattle.std.proofs.Common.{◌≡◌, ℕ, ◌+◌, ◌-◌, ◌*◌, ◌<◌, ◌≤◌, ◌^◌, true, false, sym, ◌∙◌, arith, ⊎_elim}
use Rattle.std.proofs.Math.Nat.{mul-le-mul, mul-le-mul_right}
use Rattle.std.proofs.lemmas.Bool.{cases_lt, cases_Bool, lt-ltb, le-ltb, leb-true, le-leb}
use Rattle.precedence.specs.Cone.{square}
use Rattle.precedence.specs.inner.Reach.{is_in_reach, CountsAll}
use Rattle.precedence.specs.declared.cones.cone_rows.Reach.{Reach}

pub size_times : (s a : ℕ) → s ≤ 10 ^ 5 → a ≤ 1000 → s * a ≤ 10 ^ 8
size_times s a h k = mul-le-mul h k

pub times_distance : (t b : ℕ) → t ≤ 10 ^ 8 → b ≤ 1000 → t * b ≤ 10 ^ 11
times_distance t b h k = mul-le-mul h k

pub distance_times : (d w : ℕ) → d < 10000 → w ≤ 10 ^ 11 → d * w ≤ 10 ^ 15
distance_times d w h k = let le : d ≤ 10 ^ 4 = omega arith in mul-le-mul le k

pub length_times : (a b : ℕ) → a ≤ 10 ^ 15 → b ≤ 10 ^ 15 → a * b ≤ 10 ^ 30
length_times a b h k = mul-le-mul h k

pub ruleset products = (size_times, times_distance, distance_times, length_times)

square_grows : (d e w : ℕ) → d ≤ e → square (d * w) ≤ square (e * w)
square_grows d e w le =
    let one : d * w ≤ e * w = mul-le-mul_right w le in
    mul-le-mul one one

smaller_in_reach : (r : Reach) (d e : ℕ) → d ≤ e → is_in_reach e r ≡ true → is_in_reach d r ≡ true
smaller_in_reach r d e le h =
    let grows = square_grows d e r.weight le in
    let whole : square (e * r.weight) + r.used ≤ r.reach = leb-true _ _ h in
    le-leb _ _ (omega arith)

pub counts_all : (r : Reach) (count : ℕ) → (count < 10000 → is_in_reach count r ≡ false) → (0 < count → is_in_reach (count - 1) r ≡ true)
    → CountsAll r count
counts_all r count enough few d lt = ⊎_elim
    (λ below. smaller_in_reach r d (count - 1) (omega arith) (few (omega arith)) ∙ sym (lt-ltb d count below))
    (λ above. ⊎_elim
    (λ yes. let again : is_in_reach count r ≡ true = smaller_in_reach r count d above yes in
    let other : is_in_reach count r ≡ false = enough (omega arith) in
    let no : ⊥ = cc in absurd no)
    (λ no. no ∙ sym (le-ltb d count above))
    (cases_Bool (is_in_reach d r)))
    (cases_lt d count)
