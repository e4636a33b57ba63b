-- The shortest text of a number, of millionths and of hundredths.
use Rattle.std.specs.Prelude.{◌-◌, List, take, drop, slice_range, false, int_lt, unsigned_abs, ◌*ℤ◌}
use Rattle.std.proofs.Common.{refl, arith, ap, ◌∙◌, inl, inr, sym, ◌≡◌, ◌≢◌, ◌+◌, ◌*◌, ◌/◌, ◌%◌, ◌^◌, ◌<◌, ◌⊎◌, ◌∷◌, ◌++◌, ℕ, ℤ, pos, negsuc, Bool, [], length, ◌≤◌}
use Rattle.std.proofs.Math.Seq.{take-append-add}
use Rattle.std.proofs.lemmas.Int.{ints}
use Rattle.std.specs.Fmt.{sign_text, decimal}
use Rattle.pit_units.specs.Decimal.{shortest, size_text, fraction_text, six_digits, without_end_zeros}
use Rattle.std.proofs.lemmas.Fmt.{length-decimal-le_wide}
use Rattle.std.proofs.lemmas.Bool.{cases_eq, eq-eqb, ne_eqb}

pub not_below : (n : ℕ) → int_lt (pos n) (pos 0) ≡ false
not_below n = grind (arith, ints)

sign_and_size : (z : ℤ) → shortest z ≡ sign_text (int_lt z (pos 0)) ++ size_text (unsigned_abs z)
unfolding shortest
sign_and_size (pos n) = rw (not_below n)
sign_and_size (negsuc n) = refl

-- the sign, and then the size
pub shortest_is : (z : ℤ) (below : Bool) (size : ℕ) → below ≡ int_lt z (pos 0) → size ≡ unsigned_abs z
    → shortest z ≡ sign_text below ++ size_text size
shortest_is z below size side away = rw (side, away) (sign_and_size z)

-- bytes written before a part are before it
pub put_before : (prefix old new : List ℕ) (start at end : ℕ) → start + length prefix ≡ at → at ≤ end → drop start new ≡ prefix ++ drop at old
    → slice_range new start end ≡ prefix ++ slice_range old at end
put_before prefix old new start at end long within written =
    let count : end - start ≡ length prefix + (end - at) = omega arith in
    ap (λ n. take n (drop start new)) count ∙ ap (take (length prefix + (end - at))) written ∙ take-append-add prefix (drop at old) (end - at)

pub few_digits : (n : ℕ) → n < 2 ^ 64 → length (decimal n) ≤ 20
few_digits n fits = length-decimal-le_wide 20 n (omega arith) (omega (arith, fits)) (omega (arith, fits))

-- zeros at the end are among the last three digits, if these are not all zero
last_three : (a b c d e f : ℕ) → (d ≡ 48 → e ≡ 48 → f ≡ 48 → ⊥) → (d ≡ 48) ⊎ (d ≢ 48) → (e ≡ 48) ⊎ (e ≢ 48) → (f ≡ 48) ⊎ (f ≢ 48)
    → without_end_zeros (a ∷ b ∷ c ∷ d ∷ e ∷ f ∷ []) ≡ a ∷ b ∷ c ∷ without_end_zeros (d ∷ e ∷ f ∷ [])
last_three a b c d e f some _ _ (inr last) = rw (ne_eqb f 48 last) refl
last_three a b c d e f some _ (inr two) (inl one) = rw (eq-eqb f 48 one, ne_eqb e 48 two) refl
last_three a b c d e f some (inr three) (inl two) (inl one) = rw (eq-eqb f 48 one, eq-eqb e 48 two, ne_eqb d 48 three) refl
last_three a b c d e f some (inl three) (inl two) (inl one) = absurd (some three two one)

pub six_decimals : (n : ℕ) → n < 10 ^ 6 → n % 1000 ≢ 0 → fraction_text n
    ≡ 46 ∷ (48 + n / 1000 / 100) ∷ (48 + n / 1000 / 10 % 10) ∷ (48 + n / 1000 % 10)
    ∷ without_end_zeros ((48 + n % 1000 / 100) ∷ (48 + n % 1000 / 10 % 10) ∷ (48 + n % 1000 % 10) ∷ [])
six_decimals n small some =
    let a : 48 + n / 100000 % 10 ≡ 48 + n / 1000 / 100 = omega arith in
    let b : 48 + n / 10000 % 10 ≡ 48 + n / 1000 / 10 % 10 = omega arith in
    let d : 48 + n / 100 % 10 ≡ 48 + n % 1000 / 100 = omega arith in
    let e : 48 + n / 10 % 10 ≡ 48 + n % 1000 / 10 % 10 = omega arith in
    let f : 48 + n / 1 % 10 ≡ 48 + n % 1000 % 10 = omega arith in
    let six : six_digits n ≡ (48 + n / 1000 / 100) ∷ (48 + n / 1000 / 10 % 10) ∷ (48 + n / 1000 % 10) ∷ (48 + n % 1000 / 100)
    ∷ (48 + n % 1000 / 10 % 10) ∷ (48 + n % 1000 % 10) ∷ [] = cc (a, b, d, e, f) in
    rw (ne_eqb n 0 (λ zero. some (omega (arith, zero)))) (ap (λ ds. 46 ∷ without_end_zeros ds) six
    ∙ ap (λ ds. 46 ∷ ds) (last_three _ _ _ _ _ _ (λ x y z. some (omega (arith, x, y, z))) (cases_eq _ 48) (cases_eq _ 48) (cases_eq _ 48)))

pub whole_millionths : (n : ℕ) → shortest (pos n) ≡ size_text n
unfolding shortest
whole_millionths n = refl

below_zero : (z : ℤ) → int_lt z (pos 0) ≡ int_lt (z *ℤ pos 10000) (pos 0)
below_zero (pos n) = grind (arith, ints)
below_zero (negsuc n) = grind (arith, ints)

size_in_millionths : (z : ℤ) → unsigned_abs (z *ℤ pos 10000) ≡ unsigned_abs z * 10000
size_in_millionths (pos n) = grind (arith, ints)
size_in_millionths (negsuc n) = grind (arith, ints)

-- the sign, the integer and the decimals
pub hundredths_text : (z : ℤ) (below : Bool) (size : ℕ) → below ≡ int_lt z (pos 0) → size ≡ unsigned_abs z
    → shortest (z *ℤ pos 10000) ≡ sign_text below ++ (decimal (size / 100) ++ fraction_text (size % 100 * 10 * 1000))
hundredths_text z below size side away =
    let whole : size * 10000 / 10 ^ 6 ≡ size / 100 = omega arith in
    let rest : size * 10000 % 10 ^ 6 ≡ size % 100 * 10 * 1000 = omega arith in
    shortest_is (z *ℤ pos 10000) below (size * 10000) (side ∙ below_zero z)
    (ap (λ n. n * 10000) away ∙ sym (size_in_millionths z))
    ∙ (λ j. sign_text below ++ (decimal (whole j) ++ fraction_text (rest j)))
