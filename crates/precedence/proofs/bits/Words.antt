-- One bit of a word through each operation.
use Rattle.std.proofs.Common.{◌≡◌, ℕ, zero, suc, ◌+◌, ◌-◌, ◌*◌, ◌/◌, ◌%◌, ◌^◌, ◌<◌, ◌≤◌, min, max, Bool, true, false, not, ◌&&◌, ◌||◌, ◌==◌, nat_lt, nat_le, bit_and, bit_or, ⊎_elim, refl, sym, ap, ◌∙◌, arith}
use Rattle.std.specs.Int.{bit_at, leading_zeros, trailing_zeros, w64, w128}
use Rattle.std.proofs.lemmas.Bool.{cases_lt, lt-ltb, le-ltb, le-leb, lt-leb, and_parts, and_cases, both_ways, not-true, not-false}
use Rattle.std.proofs.Math.Nat.{div-eq_of_lt-le, div-le_self, mod-eq_of_lt, mul_comm, mul-sub, pow-suc}
use Rattle.std.proofs.Math.Pow.{pow_mono}
use Rattle.std.proofs.lemmas.Nat.{leading_length, leading_top, pow-add, pow_pos, shr-shr}
use Rattle.std.proofs.lemmas.Nat.Bits.{bit_at_and, bit_at_or, bit_at_not, bit_at_above, bit_at-lt, bit_at-trailing_zeros, bit_at-zero, bit_at_mask_inside, bit_at_mask_below, bit_at_mask_above}
use Rattle.precedence.specs.inner.lanes.Bits.{has_bit}

two_cases : (P : ℕ → Type 0) → P 0 → P 1 → (x : ℕ) → x < 2 → P x
two_cases P p q zero h = p
two_cases P p q (suc zero) h = q
two_cases P p q (suc (suc r)) h = absurd (omega arith)

two_bits : (P : ℕ → ℕ → Type 0) → P 0 0 → P 0 1 → P 1 0 → P 1 1 → (a b i : ℕ) → P (bit_at a i) (bit_at b i)
two_bits P p q r s a b i =
    two_cases (λ x. P x (bit_at b i)) (two_cases (P 0) p q (bit_at b i) (bit_at-lt b i)) (two_cases (P 1) r s (bit_at b i) (bit_at-lt b i)) (bit_at a i) (bit_at-lt a i)

pub has_bit_and : (a b i : ℕ) → has_bit (bit_and a b) i ≡ (has_bit a i && has_bit b i)
has_bit_and a b i = ap (λ n. n == 1) (bit_at_and a b i) ∙ two_bits (λ x y. (min x y == 1) ≡ ((x == 1) && (y == 1))) refl refl refl refl a b i

pub has_bit_or : (a b i : ℕ) → has_bit (bit_or a b) i ≡ (has_bit a i || has_bit b i)
has_bit_or a b i = ap (λ n. n == 1) (bit_at_or a b i) ∙ two_bits (λ x y. (max x y == 1) ≡ ((x == 1) || (y == 1))) refl refl refl refl a b i

pub has_bit_shr : (a k i : ℕ) → has_bit (a / 2 ^ k) i ≡ has_bit a (i + k)
has_bit_shr a k i =
    let e : k + i ≡ i + k = omega arith in
    ap (λ x. x % 2 == 1) (shr-shr a k i) ∙ ap (λ j. has_bit a j) e

has_bit_not : (a i : ℕ) → a < 2 ^ 128 → i < 128 → has_bit (2 ^ 128 - 1 - a) i ≡ not (has_bit a i)
has_bit_not a i fits within =
    ap (λ n. n == 1) (bit_at_not w128 a i fits within) ∙ two_cases (λ x. ((1 - x) == 1) ≡ not (x == 1)) refl refl (bit_at a i) (bit_at-lt a i)

-- a word has no bit from 128 on
has_bit_above : (a i : ℕ) → a < 2 ^ 128 → 128 ≤ i → has_bit a i ≡ false
has_bit_above a i fits from = ap (λ n. n == 1) (bit_at_above a 128 i fits from)

-- the lanes that are not seen
has_bit_cleared : (lanes seen i : ℕ) → lanes < 2 ^ 128 → seen < 2 ^ 128 → has_bit (bit_and lanes (2 ^ 128 - 1 - seen)) i ≡ (has_bit lanes i && not (has_bit seen i))
has_bit_cleared lanes seen i fits seen_fits = ⊎_elim
    (λ within. has_bit_and lanes (2 ^ 128 - 1 - seen) i ∙ ap (λ b. has_bit lanes i && b) (has_bit_not seen i seen_fits within))
    (λ above.
    let no = has_bit_above lanes i fits above in
    has_bit_and lanes (2 ^ 128 - 1 - seen) i ∙ ap (λ b. b && has_bit (2 ^ 128 - 1 - seen) i) no ∙ sym (ap (λ b. b && not (has_bit seen i)) no))
    (cases_lt i 128)

pub kept_parts : (lanes seen i : ℕ) → lanes < 2 ^ 128 → seen < 2 ^ 128 → has_bit (bit_and lanes (2 ^ 128 - 1 - seen)) i ≡ true → (has_bit lanes i ≡ true) × (has_bit seen i ≡ false)
kept_parts lanes seen i fits seen_fits kept =
    let h = and_parts (has_bit lanes i) (not (has_bit seen i)) (sym (has_bit_cleared lanes seen i fits seen_fits) ∙ kept) in
    (h.0, not-true _ h.1)

pub cleared_from : (lanes seen i : ℕ) → lanes < 2 ^ 128 → seen < 2 ^ 128 → has_bit lanes i ≡ true → has_bit (bit_and lanes (2 ^ 128 - 1 - seen)) i ≡ false → has_bit seen i ≡ true
cleared_from lanes seen i fits seen_fits lane gone = ⊎_elim
    (λ none. absurd (both_ways _ none lane))
    (λ seen_it. not-false _ seen_it)
    (and_cases (has_bit lanes i) (not (has_bit seen i)) (sym (has_bit_cleared lanes seen i fits seen_fits) ∙ gone))

pub has_bit_mask : (low high p : ℕ) → low ≤ high → has_bit (2 ^ high - 2 ^ low) p ≡ (nat_le low p && nat_lt p high)
has_bit_mask low high p le = ⊎_elim
    (λ below. ap (λ n. n == 1) (bit_at_mask_below low high p below) ∙ sym (ap (λ b. b && nat_lt p high) (lt-leb low p below)))
    (λ from. ⊎_elim
    (λ inside. ap (λ n. n == 1) (bit_at_mask_inside low high p from inside) ∙ sym (ap2 (le-leb low p from) (lt-ltb p high inside)))
    (λ above. ap (λ n. n == 1) (bit_at_mask_above low high p above) ∙ sym (ap2 (le-leb low p from) (le-ltb p high above)))
    (cases_lt p high))
    (cases_lt p low)
  where
    ap2 : {a b : Bool} {x y : Bool} → a ≡ x → b ≡ y → (a && b) ≡ (x && y)
    ap2 e f = cc

-- a word that has no bit from k on is below 2 ^ k
pub below_by_bits : (n k : ℕ) → n < 2 ^ 128 → ((i : ℕ) → has_bit n i ≡ true → i < k) → n < 2 ^ k
below_by_bits n k fits bits = ⊎_elim
    (λ some.
    let top = leading_top 128 n some fits in
    let one : n / 2 ^ top.0 ≡ 1 = div-eq_of_lt-le (2 ^ top.0) (omega (arith, top.2)) (omega (arith, top.3, pow-suc 2 top.0)) in
    let bit : has_bit n top.0 ≡ true = ap (λ x. x % 2 == 1) one in
    let most = pow_mono {i = suc top.0} {j = k} (omega (arith, bits top.0 bit)) in
    omega (arith, top.3, most))
    (λ none. omega (arith, none, pow_pos k))
    (cases_lt 0 n)

pub lane_below : (lanes k i : ℕ) → lanes < 2 ^ k → has_bit lanes i ≡ true → i < k
lane_below lanes k i fits lane = ⊎_elim
    (λ lt. lt)
    (λ above. absurd (both_ways _ (ap (λ n. n == 1) (bit_at_above lanes k i fits above)) lane))
    (cases_lt i k)

pub no_bit : (i : ℕ) → has_bit 0 i ≡ true → ⊥
no_bit i h = both_ways _ (ap (λ n. n == 1) (bit_at-zero i)) h

-- a mask that is moved up
pub moved_mask : (first past : ℕ) → first ≤ past → past ≤ 128 → (2 ^ (past - first) - 1) * 2 ^ first % 2 ^ 128 ≡ 2 ^ past - 2 ^ first
moved_mask first past le within =
    let total : past - first + first ≡ past = omega arith in
    let all : 2 ^ (past - first) * 2 ^ first ≡ 2 ^ past = sym (pow-add 2 (past - first) first) ∙ ap (λ n. 2 ^ n) total in
    let up : 2 ^ past ≤ 2 ^ 128 = pow_mono within in
    let moved : (2 ^ (past - first) - 1) * 2 ^ first ≡ 2 ^ past - 2 ^ first = moved_by (2 ^ (past - first)) (2 ^ first) ∙ ap (λ n. n - 2 ^ first) all in
    mod-eq_of_lt (omega (arith, moved, up, pow_pos first, pow_pos past)) ∙ moved
  where
    moved_by : (a b : ℕ) → (a - 1) * b ≡ a * b - b
    moved_by a b = omega (arith, mul_comm (a - 1) b, mul-sub b a 1, mul_comm b a)

-- the last lane
pub last_lane : (lanes : ℕ) → lanes < 2 ^ 64 → (m : ℕ) × (leading_zeros w128 lanes + m ≡ 128) × (m ≤ 64) × ((i : ℕ) → has_bit lanes i ≡ true → i < m)
last_lane lanes fits =
    let top = leading_length 128 lanes (omega (arith, fits)) in (
      top.0,
      top.1,
      ⊎_elim
          (λ less. omega (arith, less))
          (λ more. let most : 2 ^ 65 ≤ 2 ^ top.0 = pow_mono more in absurd (omega (arith, most, top.3, fits)))
          (cases_lt top.0 65),
      λ i lane. lane_below lanes top.0 i top.2 lane,
    )

-- ---- words of 64 bits

has_bit_ones : (k p : ℕ) → has_bit (2 ^ k - 1) p ≡ nat_lt p k
has_bit_ones k p = has_bit_mask 0 k p (omega arith) ∙ ap (λ b. b && nat_lt p k) (le-leb 0 p (omega arith))

pub has_bit_below : (past p : ℕ) → past ≤ 64 → has_bit ((2 ^ 64 - 1) / 2 ^ (64 - past)) p ≡ nat_lt p past
has_bit_below past p within = has_bit_shr (2 ^ 64 - 1) (64 - past) p ∙ has_bit_ones 64 (p + (64 - past)) ∙ ⊎_elim
    (λ less. lt-ltb _ _ (omega arith) ∙ sym (lt-ltb p past less))
    (λ more. le-ltb _ _ (omega arith) ∙ sym (le-ltb p past more))
    (cases_lt p past)

has_bit_not_64 : (a i : ℕ) → a < 2 ^ 64 → i < 64 → has_bit (2 ^ 64 - 1 - a) i ≡ not (has_bit a i)
has_bit_not_64 a i fits within =
    ap (λ n. n == 1) (bit_at_not w64 a i fits within) ∙ two_cases (λ x. ((1 - x) == 1) ≡ not (x == 1)) refl refl (bit_at a i) (bit_at-lt a i)

-- the bits that are not from `first` to `past` (exclusive)
pub has_bit_outside : (bits mask first past p : ℕ) → bits < 2 ^ 64 → mask < 2 ^ 64 → has_bit mask p ≡ nat_lt p past
    → has_bit (bit_and bits (bit_or (2 ^ first - 1) (2 ^ 64 - 1 - mask))) p ≡ (has_bit bits p && not (nat_le first p && nat_lt p past))
has_bit_outside bits mask first past p fits mask_fits mask_is = has_bit_and bits _ p ∙ ⊎_elim
    (λ within. ap (λ b. has_bit bits p && b) (has_bit_or (2 ^ first - 1) (2 ^ 64 - 1 - mask) p
    ∙ (λ j. has_bit_ones first p j || (has_bit_not_64 mask p mask_fits within ∙ ap not mask_is) j) ∙ outside))
    (λ above.
    let none : has_bit bits p ≡ false = ap (λ n. n == 1) (bit_at_above bits 64 p fits above) in
    ap (λ b. b && has_bit (bit_or (2 ^ first - 1) (2 ^ 64 - 1 - mask)) p) none ∙ sym (ap (λ b. b && not (nat_le first p && nat_lt p past)) none))
    (cases_lt p 64)
  where
    outside : (nat_lt p first || not (nat_lt p past)) ≡ not (nat_le first p && nat_lt p past)
    outside = ⊎_elim
        (λ below. ap (λ b. b || not (nat_lt p past)) (lt-ltb p first below) ∙ sym (ap (λ b. not (b && nat_lt p past)) (lt-leb first p below)))
        (λ from. ap (λ b. b || not (nat_lt p past)) (le-ltb p first from) ∙ sym (ap (λ b. not (b && nat_lt p past)) (le-leb first p from)))
        (cases_lt p first)

-- the first bit from `at` on
pub first_bit : (n at : ℕ) → n < 2 ^ 64 → (n / 2 ^ at ≡ 0 → ⊥)
    → (has_bit n (at + trailing_zeros w64 (n / 2 ^ at)) ≡ true)
    × ((p : ℕ) → at ≤ p → p < at + trailing_zeros w64 (n / 2 ^ at) → has_bit n p ≡ false)
first_bit n at fits some =
    let h = bit_at-trailing_zeros w64 (n / 2 ^ at) (omega (arith, some)) (omega (arith, div-le_self n (2 ^ at), fits)) in
    let place = trailing_zeros w64 (n / 2 ^ at) in
    let there : at + place ≡ place + at = omega arith in (
      ap (has_bit n) there ∙ sym (has_bit_shr n at place) ∙ ap (λ x. x == 1) h.1,
      λ p from before.
          let back : p ≡ p - at + at = omega (arith, from) in
          ap (has_bit n) back ∙ sym (has_bit_shr n at (p - at)) ∙ ap (λ x. x == 1) (h.2 (p - at) (omega (arith, from, before))),
    )

pub no_bits : (n at p : ℕ) → n / 2 ^ at ≡ 0 → at ≤ p → has_bit n p ≡ false
no_bits n at p none from =
    let back : p ≡ p - at + at = omega (arith, from) in
    ap (has_bit n) back ∙ sym (has_bit_shr n at (p - at)) ∙ ap (λ m. has_bit m (p - at)) none ∙ ap (λ x. x == 1) (bit_at-zero (p - at))
