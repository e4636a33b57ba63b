-- Digits of a text: their value, with the next digit, and the number that digits denote.
use Rattle.std.specs.Prelude.{◌≡◌, ℕ, ◌+◌, ◌*◌, ◌-◌, ◌^◌, ◌<◌, ◌≤◌, min, List, ◌++◌, length, get_or, take, replicate, zero, suc, [], ◌∷◌, true, ◌==◌, drop, pos, Ok}
use Rattle.std.proofs.Common.{arith, sym, refl, ap, add-one, length-append, ◌∙◌, inl, append-nil}
use Rattle.std.proofs.Math.Nat.{pow-succ', pow-le-pow_right}
use Rattle.std.proofs.lemmas.Bool.{eq-eqb, ne_eqb, le-ltb}
use Rattle.std.proofs.lemmas.Int.Digits.{digits_value_more}
use Rattle.std.proofs.lemmas.List.Sums.{AllPass-from_list_all, position_or_len_is}
use Rattle.std.proofs.lemmas.List.{get_or-replicate, drop_all}
use Rattle.std.proofs.lemmas.Str.{digit_value_digit}
use Rattle.std.specs.Char.{is_ascii_digit}
use Rattle.std.specs.Int.{IsInRange}
use Rattle.std.specs.List.{list_all, position_or_len}
use Rattle.std.specs.Str.Parse.{digits_value}
use Rattle.std.proofs.lemmas.List.Folds.{list_all_more}
use Rattle.pit_units.proofs.Encoding.{digit_range, reads}
use Rattle.pit_units.specs.Decimal.{all_digits, size_of, decimal_of}
use Rattle.pit_units.specs.StandsFor.{IsDecimalText}

-- each byte of digits is a digit
pub digit_in_range : (xs : List ℕ) (i : ℕ) → list_all is_ascii_digit xs ≡ true → i < length xs → IsInRange 48 57 (get_or xs i 0)
digit_in_range xs i all within = digit_range (get_or xs i 0) (AllPass-from_list_all is_ascii_digit xs all i 0 within)

-- the next digit of a number that is cut off at a limit
pub capped_more : (xs : List ℕ) (i value : ℕ) → list_all is_ascii_digit xs ≡ true → i < length xs
    → value ≡ min (10 ^ 18 + 1) (digits_value 10 (take i xs))
    → min (10 ^ 18 + 1) (value * 10 + (get_or xs i 0 - 48)) ≡ min (10 ^ 18 + 1) (digits_value 10 (take (i + 1) xs))
capped_more xs i value all within so_far =
    let range = digit_in_range xs i all within in
    omega (arith, range, digit_value_digit (get_or xs i 0) range, digits_value_more 10 xs i within)

-- the first index of a byte
pub first_place : (xs : List ℕ) (i byte : ℕ) → i ≤ length xs → ((k : ℕ) → k < i → get_or xs k 0 ≡ byte → ⊥)
    → (i < length xs → get_or xs i 0 ≡ byte) → i ≡ position_or_len (λ c. c == byte) xs
first_place xs i byte within before at =
    sym (position_or_len_is (λ c. c == byte) xs i 0 within (λ k h. ne_eqb _ _ (before k h)) (λ h. eq-eqb _ _ (at h)))

-- an index of a text followed by zeros
pub padded_at : (xs : List ℕ) (n i : ℕ) → i < n → get_or (xs ++ replicate n 48) i 0 ≡ get_or xs i 48
padded_at [] n i within = get_or-replicate n i 48 0 within
padded_at (x ∷ xs) n zero within = refl
padded_at (x ∷ xs) n (suc i) within = padded_at xs n i (omega arith)

-- the next of the six decimals
pub decimals_more : (xs : List ℕ) (i value digit : ℕ) → i < 6 → digit ≤ 9 → digit + 48 ≡ get_or xs i 48 → value < 10 ^ i
    → value ≡ digits_value 10 (take i (xs ++ replicate 6 48)) → (value * 10 + digit < 10 ^ (i + 1))
    × (value * 10 + digit ≡ digits_value 10 (take (i + 1) (xs ++ replicate 6 48)))
decimals_more xs i value digit within small is bound so_far =
    let padded = padded_at xs 6 i within in
    let range : IsInRange 48 57 (get_or (xs ++ replicate 6 48) i 0) = omega arith in
    let long : i < length (xs ++ replicate 6 48) = omega (arith, length-append xs (replicate 6 48)) in (
      omega (arith, pow-succ' 10 i, ap (λ n. 10 ^ n) (add-one i)),
      omega (arith, digit_value_digit _ range, digits_value_more 10 (xs ++ replicate 6 48) i long),
    )

-- digits only are read as their number
pub digits_alone : (max : ℕ) (text : List ℕ) → all_digits text ≡ true → 0 < length text → digits_value 10 text ≤ 10 ^ 18
    → decimal_of max text ≡ Ok (pos (digits_value 10 text * 10 ^ 6))
digits_alone max text digits some few =
    let encoded : IsDecimalText text [] text [] [] = record {
      joined = sym (append-nil text);
      signs = inl refl;
      point = inl (refl, refl);
      whole_digits = digits;
      fraction_digits = refl;
      some_digit = omega (arith, some);
    } in
    let none : drop {A = ℕ} max [] ≡ [] = drop_all max [] (omega arith) in
    let size : size_of text [] ≡ digits_value 10 text * 10 ^ 6 = omega arith in
    reads max text [] text [] [] encoded ∙ rw (none, size, le-ltb (10 ^ 24) (digits_value 10 text * 10 ^ 6) (omega (arith, few))) refl

-- a number with few digits
pub small_value : (i most value : ℕ) → i ≤ most → value < 10 ^ i → value < 10 ^ most
small_value i most value few small = omega (arith, small, pow-le-pow_right {n = 10} (omega arith) few)

-- the next digit
pub more_digits : (xs : List ℕ) (i value : ℕ) → i < length xs → is_ascii_digit (get_or xs i 0) ≡ true
    → (value < 10 ^ i) × ((value ≡ digits_value 10 (take i xs)) × (all_digits (take i xs) ≡ true))
    → (value * 10 + (get_or xs i 0 - 48) < 10 ^ (i + 1))
    × ((value * 10 + (get_or xs i 0 - 48) ≡ digits_value 10 (take (i + 1) xs)) × (all_digits (take (i + 1) xs) ≡ true))
more_digits xs i value within digit so_far =
    let range = digit_range (get_or xs i 0) digit in (
      omega (arith, range, so_far.0, pow-succ' 10 i, ap (λ n. 10 ^ n) (add-one i)),
      (
        omega (arith, range, so_far.1.0, digit_value_digit (get_or xs i 0) range, digits_value_more 10 xs i within),
        list_all_more is_ascii_digit xs i 0 within ∙ rw (so_far.1.1, digit) refl,
      ),
    )
