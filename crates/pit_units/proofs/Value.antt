-- The value of digits before and after a point, whatever their number.
use Rattle.std.specs.Prelude.{◌≡◌, ℕ, zero, suc, ◌+◌, ◌-◌, ◌*◌, ◌/◌, ◌%◌, ◌^◌, ◌<◌, ◌≤◌, Bool, true, List, [], ◌∷◌, ◌++◌, length, take, drop, replicate, ◌==◌}
use Rattle.std.proofs.lemmas.Bool.{and_parts}
use Rattle.std.proofs.Common.{arith, refl, ap, sym, ◌∙◌}
use Rattle.std.proofs.Math.Nat.{pow-zero, pow-succ'}
use Rattle.std.proofs.lemmas.Int.Digits.{digits_value-lt}
use Rattle.std.proofs.lemmas.List.{drop-drop, length-append, length-drop, length-replicate, take-append-drop}
use Rattle.std.proofs.lemmas.List.Folds.{list_all-append}
use Rattle.std.proofs.lemmas.Nat.{div-mul-add, mod-mul-add}
use Rattle.std.proofs.lemmas.Str.{digit_value_digit}
use Rattle.std.proofs.lemmas.Str.Parse.{digit_from_value}
use Rattle.std.proofs.lemmas.Bool.{eqb-true}
use Rattle.std.specs.Char.{digit_value, is_ascii_digit}
use Rattle.std.specs.List.{list_all}
use Rattle.std.specs.Str.Parse.{AllDigits, digits_value, digits_value_after}
use Rattle.pit_units.specs.Decimal.{all_digits, all_zeros, six_decimals, size_of}
use Rattle.pit_units.proofs.Encoding.{digit_range}

-- digits after a number
after_is : (n : ℕ) (ds : List ℕ) → digits_value_after 10 n ds ≡ n * 10 ^ length ds + digits_value_after 10 0 ds
after_is n [] = omega (arith, ap (λ x. n * x) (pow-zero 10))
after_is n (c ∷ cs) =
    omega (arith, after_is (n * 10 + digit_value c) cs, after_is (0 * 10 + digit_value c) cs, ap (λ x. n * x) (pow-succ' 10 (length cs)))

after_append : (n : ℕ) (xs ys : List ℕ) → digits_value_after 10 n (xs ++ ys) ≡ digits_value_after 10 (digits_value_after 10 n xs) ys
after_append n [] ys = refl
after_append n (c ∷ cs) ys = after_append (n * 10 + digit_value c) cs ys

-- digits after digits
pub value_append : (xs ys : List ℕ) → digits_value 10 (xs ++ ys) ≡ digits_value 10 xs * 10 ^ length ys + digits_value 10 ys
value_append xs ys = after_append 0 xs ys ∙ after_is (digits_value 10 xs) ys

-- digits by std's definition
pub digits_all : (ds : List ℕ) → all_digits ds ≡ true → AllDigits 10 ds
digits_all [] h = tt
digits_all (c ∷ cs) h =
    let parts = and_parts (is_ascii_digit c) (all_digits cs) h in
    let range = digit_range c parts.0 in
    (omega (arith, range, digit_value_digit c range), digits_all cs parts.1)

-- digits of equal length with the same number are equal
pub same_digits : (xs ys : List ℕ) → AllDigits 10 xs → AllDigits 10 ys → length xs ≡ length ys → digits_value 10 xs ≡ digits_value 10 ys
    → xs ≡ ys
same_digits [] [] in_xs in_ys long same = refl
same_digits (x ∷ xs) (y ∷ ys) in_xs in_ys long same =
    let a = 0 * 10 + digit_value x in
    let b = 0 * 10 + digit_value y in
    let scale = 10 ^ length xs in
    let fewer : length ys ≡ length xs = omega (arith, long) in
    let low = digits_value-lt 10 xs in_xs.1 in
    let low_too : digits_value 10 ys < scale = rw fewer at (digits_value-lt 10 ys in_ys.1) in
    let sum : digits_value 10 (y ∷ ys) ≡ b * scale + digits_value 10 ys = rw fewer at (after_is b ys) in
    let whole : a * scale + digits_value 10 xs ≡ b * scale + digits_value 10 ys = sym (after_is a xs) ∙ same ∙ sum in
    let first : a ≡ b =
    sym (div-mul-add a scale (digits_value 10 xs) low) ∙ ap (λ n. n / scale) whole ∙ div-mul-add b scale (digits_value 10 ys) low_too in
    let rest : digits_value 10 xs ≡ digits_value 10 ys =
    sym (mod-mul-add a scale (digits_value 10 xs) low) ∙ ap (λ n. n % scale) whole ∙ mod-mul-add b scale (digits_value 10 ys) low_too in
    let range = digit_from_value x in_xs.0 in
    let range_too = digit_from_value y in_ys.0 in
    let byte : x ≡ y = omega (arith, first, range, range_too, digit_value_digit x range, digit_value_digit y range_too) in
    ap (λ c. c ∷ xs) byte ∙ ap (λ cs. y ∷ cs) (same_digits xs ys in_xs.1 in_ys.1 (sym fewer) rest)
same_digits _ _ in_xs in_ys long same = absurd (omega (arith, long))

pub value_zeros : (zs : List ℕ) → all_zeros zs ≡ true → digits_value 10 zs ≡ 0
value_zeros [] h = refl
value_zeros (c ∷ cs) h =
    let parts = and_parts (c == 48) (all_zeros cs) h in
    rw (eqb-true c 48 parts.0) (value_zeros cs parts.1)

pub zeros_pass : (p : ℕ → Bool) (n : ℕ) → p 48 ≡ true → list_all p (replicate n 48) ≡ true
zeros_pass p zero h = refl
zeros_pass p (suc n) h = rw h (zeros_pass p n h)

-- digits with the number 0 are zeros
pub zeros_alone : (zs : List ℕ) → AllDigits 10 zs → digits_value 10 zs ≡ 0 → all_zeros zs ≡ true
zeros_alone zs digits none =
    let zeros = replicate (length zs) 48 in
    let pass = zeros_pass (λ c. c == 48) (length zs) refl in
    let same : zs ≡ zeros = same_digits zs zeros digits (digits_all zeros (zeros_pass is_ascii_digit (length zs) refl))
    (sym (length-replicate (length zs) 48)) (none ∙ sym (value_zeros zeros pass)) in
    ap all_zeros same ∙ pass

-- if a list passes, so do its parts
pub pass_parts : (p : ℕ → Bool) (xs : List ℕ) (n : ℕ) → list_all p xs ≡ true → (list_all p (take n xs) ≡ true) × (list_all p (drop n xs) ≡ true)
pass_parts p xs n h =
    and_parts (list_all p (take n xs)) (list_all p (drop n xs))
    (sym (list_all-append p (take n xs) (drop n xs)) ∙ ap (list_all p) (take-append-drop n xs) ∙ h)

pub pass_append : (p : ℕ → Bool) (xs ys : List ℕ) → list_all p xs ≡ true → list_all p ys ≡ true → list_all p (xs ++ ys) ≡ true
pass_append p xs ys h g = rw (list_all-append p xs ys, h) g

-- bytes that pass after a position pass after a later one
pub pass_drop_later : (p : ℕ → Bool) (xs : List ℕ) (n m : ℕ) → n ≤ m → list_all p (drop n xs) ≡ true → list_all p (drop m xs) ≡ true
pass_drop_later p xs n m later h =
    let place : m ≡ n + (m - n) = omega arith in
    rw (place, ← drop-drop (m - n) n xs) (pass_parts p (drop n xs) (m - n) h).1

-- bytes that pass after a position, in a longer list
pub pass_drop_append : (p : ℕ → Bool) (xs ys : List ℕ) (n : ℕ) → list_all p (drop n xs) ≡ true → list_all p ys ≡ true
    → list_all p (drop n (xs ++ ys)) ≡ true
pass_drop_append p xs ys zero h g = pass_append p xs ys h g
pass_drop_append p [] ys (suc n) h g = (pass_parts p ys (suc n) g).1
pass_drop_append p (c ∷ cs) ys (suc n) h g = pass_drop_append p cs ys n h g

pub size_product : (whole decimals scale : ℕ) → (whole * 10 ^ 6 + decimals) * scale ≡ whole * scale * 10 ^ 6 + decimals * scale
size_product whole decimals scale = omega arith

-- digits and the six decimals that count have the same number as all digits
pub size_scaled : (whole fraction : List ℕ) → all_zeros (drop 6 fraction) ≡ true
    → size_of whole fraction * 10 ^ length fraction ≡ digits_value 10 (whole ++ fraction) * 10 ^ 6
size_scaled whole fraction fine =
    let padded = fraction ++ replicate 6 48 in
    let padded_value = value_append fraction (replicate 6 48) in
    let rest_zeros : all_zeros (drop 6 padded) ≡ true = pass_drop_append (λ c. c == 48) fraction (replicate 6 48) 6 fine refl in
    let rest_length : length (drop 6 padded) ≡ length fraction =
    omega (arith, length-drop 6 padded, length-append fraction (replicate 6 48)) in
    let split : digits_value 10 padded ≡ digits_value 10 (take 6 padded) * 10 ^ length (drop 6 padded) + digits_value 10 (drop 6 padded) =
    ap (digits_value 10) (sym (take-append-drop 6 padded)) ∙ value_append (take 6 padded) (drop 6 padded) in
    let cut : digits_value 10 padded ≡ digits_value 10 (six_decimals fraction) * 10 ^ length fraction + 0 =
    rw (rest_length, value_zeros (drop 6 padded) rest_zeros) at split in
    omega (
      arith,
      cut,
      padded_value,
      value_append whole fraction,
      size_product (digits_value 10 whole) (digits_value 10 (six_decimals fraction)) (10 ^ length fraction),
    )
