-- The parts of the shortest text, and the number read from it.
use Rattle.std.specs.Prelude.{◌≡◌, ◌≢◌, ℕ, zero, suc, ◌+◌, ◌-◌, ◌*◌, ◌/◌, ◌%◌, ◌^◌, ◌<◌, ◌≤◌, Bool, true, false, ◌⊎◌, List, [], ◌∷◌, ◌++◌, length, get_or, take, drop, reverse, replicate, Ok, ◌==◌, ℤ, pos, negsuc, unsigned_abs, int_lt, ◌<ℤ◌, ◌↔◌}
use Rattle.std.proofs.Common.{arith, refl, ap, sym, ◌∙◌, inl, inr, append-nil}
use Rattle.std.proofs.lemmas.Bool.{cases_lt}
use Rattle.std.proofs.lemmas.Fmt.{decimal_digit, decimal_is_IsNumeral_wide, first_decimal, length-decimal-le_wide}
use Rattle.std.proofs.lemmas.Int.{ints}
use Rattle.std.proofs.lemmas.Int.Digits.{digits_value-lt}
use Rattle.std.proofs.Math.Nat.{dvd-mul_right, mod-mod_of_dvd, mul_comm, pow-le-pow_right}
use Rattle.std.proofs.lemmas.Nat.{mod-mul-add, pow-add}
use Rattle.std.proofs.lemmas.List.Elements.{All-append, All-cons, All-nil}
use Rattle.std.proofs.lemmas.List.{length-drop, length-take, length-append, take-append-drop, length-reverse, length-replicate, get_or-take, get_or_append_left, get_or-append_right, get_or-replicate, get_or-reverse, ext_get_or}
use Rattle.std.proofs.lemmas.List.Sums.{AllPass-from_list_all, prefix_len_passes, prefix_len_stops, suffix_len-le-length}
use Rattle.std.proofs.lemmas.Str.{digit_value_digit}
use Rattle.std.proofs.lemmas.Str.Parse.{digit_from_value}
use Rattle.std.proofs.lemmas.Bool.{ne_eqb, le-ltb, le-leb, eqb-true, eqb-false}
use Rattle.std.specs.Char.{digit_value, is_ascii_digit}
use Rattle.std.specs.Fmt.{decimal, sign_text}
use Rattle.std.specs.List.{All, list_all, suffix_len}
use Rattle.std.specs.Str.Parse.{AllDigits, digits_value, starts_with_minus}
use Rattle.pit_units.specs.Decimal.{all_digits, all_zeros, six_decimals, size_of, signed, decimal_of, six_digits, without_end_zeros, fraction_text, size_text, shortest}
use Rattle.pit_units.specs.StandsFor.{IsDecimalText}
use Rattle.pit_units.specs.Shortest.{IsPlain, IsPlainByte, IsShortest, longest}
use Rattle.pit_units.proofs.Encoding.{digit_range, reads}
use Rattle.pit_units.proofs.Value.{digits_all, pass_parts, value_append, zeros_alone}
use Rattle.pit_units.proofs.Text.{not_below, shortest_is}

-- std's digits by recursion, as a test
pub digits_pass : (ds : List ℕ) → AllDigits 10 ds → all_digits ds ≡ true
digits_pass [] h = refl
digits_pass (c ∷ cs) h =
    let range = digit_from_value c h.0 in
    rw (le-leb 48 c range.0, le-leb c 57 range.1) (digits_pass cs h.1)

-- bytes that pass after a position pass after it in a part
pass_drop_take : (p : ℕ → Bool) (xs : List ℕ) (from n : ℕ) → list_all p (drop from xs) ≡ true → list_all p (drop from (take n xs)) ≡ true
pass_drop_take p xs zero n h = (pass_parts p xs n h).0
pass_drop_take p [] (suc from) zero h = refl
pass_drop_take p [] (suc from) (suc n) h = refl
pass_drop_take p (c ∷ cs) (suc from) zero h = refl
pass_drop_take p (c ∷ cs) (suc from) (suc n) h = pass_drop_take p cs from n h

digit_passes : (n : ℕ) → is_ascii_digit (48 + n % 10) ≡ true
digit_passes n = rw (le-leb 48 (48 + n % 10) (omega arith), le-leb (48 + n % 10) 57 (omega arith))

pub six_pass : (n : ℕ) → all_digits (six_digits n) ≡ true
six_pass n = simp digit_passes

-- the zeros at the end
ends_in_zeros : (xs : List ℕ) (i : ℕ) → i < length xs → length xs ≤ i + suffix_len (λ c. c == 48) xs → get_or xs i 0 ≡ 48
ends_in_zeros xs i within following =
    let same = get_or-reverse xs (length xs - 1 - i) 0 (omega arith) in
    let zero_there : get_or (reverse xs) (length xs - 1 - i) 0 ≡ 48 =
    eqb-true _ 48 (prefix_len_passes (λ c. c == 48) (reverse xs) (length xs - 1 - i) 0 (omega arith)) in
    let place : length xs - 1 - (length xs - 1 - i) ≡ i = omega arith in
    sym (same ∙ ap (λ k. get_or xs k 0) place) ∙ zero_there

pub kept_length : (xs : List ℕ) → length (without_end_zeros xs) + suffix_len (λ c. c == 48) xs ≡ length xs
kept_length xs = omega (arith, length-take (length xs - suffix_len (λ c. c == 48) xs) xs, suffix_len-le-length (λ c. c == 48) xs)

kept_place : (xs : List ℕ) (i : ℕ) → i < length (without_end_zeros xs) → get_or (without_end_zeros xs) i 0 ≡ get_or xs i 0
kept_place xs i within = get_or-take (length xs - suffix_len (λ c. c == 48) xs) xs i 0 (omega (arith, kept_length xs))

padded_place : (xs : List ℕ) (i : ℕ) → i < length xs → (i < length (without_end_zeros xs)) ⊎ (length (without_end_zeros xs) ≤ i)
    → get_or (without_end_zeros xs ++ replicate (length xs) 48) i 0 ≡ get_or xs i 0
padded_place xs i within (inl kept) = get_or_append_left (without_end_zeros xs) (replicate (length xs) 48) 0 i kept ∙ kept_place xs i kept
padded_place xs i within (inr cut) =
    get_or-append_right (without_end_zeros xs) (replicate (length xs) 48) (length (without_end_zeros xs)) i 0 refl cut
    ∙ get_or-replicate (length xs) (i - length (without_end_zeros xs)) 48 0 (omega arith)
    ∙ sym (ends_in_zeros xs i within (omega (arith, kept_length xs)))

-- the digits again, with zeros for the removed ones
padded_again : (xs : List ℕ) → take (length xs) (without_end_zeros xs ++ replicate (length xs) 48) ≡ xs
padded_again xs =
    let padded = without_end_zeros xs ++ replicate (length xs) 48 in
    let long : length padded ≡ length (without_end_zeros xs) + length xs =
    length-append (without_end_zeros xs) (replicate (length xs) 48)
    ∙ ap (λ n. length (without_end_zeros xs) + n) (length-replicate (length xs) 48) in
    let same : length (take (length xs) padded) ≡ length xs = omega (arith, length-take (length xs) padded) in
    ext_get_or 0 (take (length xs) padded) xs same (λ i within.
    let inside : i < length xs = omega arith in
    get_or-take (length xs) padded i 0 inside ∙ padded_place xs i inside (cases_lt i (length (without_end_zeros xs))))

-- the last of the remaining digits is not zero
last_is_no_zero : (xs : List ℕ) → 0 < length (without_end_zeros xs)
    → get_or (without_end_zeros xs) (length (without_end_zeros xs) - 1) 0 ≢ 48
last_is_no_zero xs some last =
    let zeros = suffix_len (λ c. c == 48) xs in
    let kept = kept_length xs in
    let same = kept_place xs (length (without_end_zeros xs) - 1) (omega arith) in
    let mirror = get_or-reverse xs zeros 0 (omega arith) in
    let place : length xs - 1 - zeros ≡ length (without_end_zeros xs) - 1 = omega arith in
    let stops = eqb-false _ 48 (prefix_len_stops (λ c. c == 48) (reverse xs) 0 (omega (arith, length-reverse xs))) in
    stops (mirror ∙ ap (λ k. get_or xs k 0) place ∙ sym same ∙ last)

digit_is : (n : ℕ) → digit_value (48 + n % 10) ≡ n % 10
digit_is n = omega (arith, digit_value_digit (48 + n % 10) (omega arith, omega arith))

pub six_value : (n : ℕ) → n < 10 ^ 6 → digits_value 10 (six_digits n) ≡ n
six_value n small = simp digit_is (omega arith)

-- after the decimals that a multiple needs there are zeros
fine_places : (n max : ℕ) → n < 10 ^ 6 → n % 10 ^ (6 - max) ≡ 0 → all_zeros (drop max (six_digits n)) ≡ true
fine_places n max small multiple =
    let prefix = take max (six_digits n) in
    let rest = drop max (six_digits n) in
    let long : length rest ≡ 6 - max = length-drop max (six_digits n) in
    let digits = digits_all rest (pass_parts is_ascii_digit (six_digits n) max (six_pass n)).1 in
    let low : digits_value 10 rest < 10 ^ (6 - max) = rw long at (digits_value-lt 10 rest digits) in
    let sum : digits_value 10 (prefix ++ rest) ≡ digits_value 10 prefix * 10 ^ (6 - max) + digits_value 10 rest = rw long at (value_append prefix rest) in
    let split : n ≡ digits_value 10 prefix * 10 ^ (6 - max) + digits_value 10 rest =
    sym (six_value n small) ∙ ap (digits_value 10) (sym (take-append-drop max (six_digits n))) ∙ sum in
    zeros_alone rest digits
    (sym (mod-mul-add (digits_value 10 prefix) (10 ^ (6 - max)) (digits_value 10 rest) low) ∙ ap (λ k. k % 10 ^ (6 - max)) (sym split) ∙ multiple)

-- the decimals of the shortest text of n millionths
abbrev pub decimals : ℕ → List ℕ
decimals n = without_end_zeros (six_digits n)

pub decimals_pass : (n : ℕ) → all_digits (decimals n) ≡ true
decimals_pass n = (pass_parts is_ascii_digit (six_digits n) _ (six_pass n)).0

pub point_part : (n : ℕ) → ((fraction_text n ≡ []) × (decimals n ≡ [])) ⊎ (fraction_text n ≡ 46 ∷ decimals n)
point_part zero = inl (refl, refl)
point_part (suc n) = inr (rw (ne_eqb (suc n) 0 (λ e. omega (arith, e))))

pub sign_part : (below : Bool) → (sign_text below ≡ []) ⊎ ((sign_text below ≡ 43 ∷ []) ⊎ (sign_text below ≡ 45 ∷ []))
sign_part true = inr (inr refl)
sign_part false = inl refl

pub side_of_sign : (below : Bool) → starts_with_minus (sign_text below) ≡ below
side_of_sign true = refl
side_of_sign false = refl

-- the parts of the shortest text
pub written_encoded : (below : Bool) (n : ℕ) → n ≤ 10 ^ 24
    → IsDecimalText (sign_text below ++ size_text n) (sign_text below) (decimal (n / 10 ^ 6))
    (fraction_text (n % 10 ^ 6)) (decimals (n % 10 ^ 6))
written_encoded below n most =
    let numeral = decimal_is_IsNumeral_wide (n / 10 ^ 6) (omega arith) in
    record {
      joined = refl;
      signs = sign_part below;
      point = point_part (n % 10 ^ 6);
      whole_digits = digits_pass (decimal (n / 10 ^ 6)) numeral.0.1;
      fraction_digits = decimals_pass (n % 10 ^ 6);
      some_digit = omega (arith, numeral.0.0);
    }

-- the number of its parts
size_again : (n : ℕ) → n ≤ 10 ^ 24 → size_of (decimal (n / 10 ^ 6)) (decimals (n % 10 ^ 6)) ≡ n
size_again n most =
    let numeral = decimal_is_IsNumeral_wide (n / 10 ^ 6) (omega arith) in
    let padded : six_decimals (decimals (n % 10 ^ 6)) ≡ six_digits (n % 10 ^ 6) = padded_again (six_digits (n % 10 ^ 6)) in
    let rest : digits_value 10 (six_decimals (decimals (n % 10 ^ 6))) ≡ n % 10 ^ 6 =
    ap (digits_value 10) padded ∙ six_value (n % 10 ^ 6) (omega arith) in
    omega (arith, numeral.1, rest)

low_multiple : (n max : ℕ) → max ≤ 6 → n % 10 ^ (6 - max) ≡ 0 → n % 10 ^ 6 % 10 ^ (6 - max) ≡ 0
low_multiple n max few multiple =
    let whole : 6 ≡ max + (6 - max) = omega arith in
    let power : 10 ^ 6 ≡ 10 ^ (6 - max) * 10 ^ max = ap (λ n. 10 ^ n) whole ∙ pow-add 10 max (6 - max) ∙ mul_comm (10 ^ max) (10 ^ (6 - max)) in
    rw power (mod-mod_of_dvd (10 ^ (6 - max)) n (dvd-mul_right (10 ^ (6 - max)) (10 ^ max)) ∙ multiple)

-- the number read from a written text
written_read : (max : ℕ) (below : Bool) (n : ℕ) → n ≤ 10 ^ 24 → n % 10 ^ 6 % 10 ^ (6 - max) ≡ 0
    → decimal_of max (sign_text below ++ size_text n) ≡ Ok (signed below n)
written_read max below n most multiple =
    let fine : all_zeros (drop max (decimals (n % 10 ^ 6))) ≡ true =
    pass_drop_take (λ c. c == 48) (six_digits (n % 10 ^ 6)) max _ (fine_places (n % 10 ^ 6) max (omega arith) multiple) in
    reads max (sign_text below ++ size_text n) (sign_text below) (decimal (n / 10 ^ 6)) (fraction_text (n % 10 ^ 6))
    (decimals (n % 10 ^ 6)) (written_encoded below n most)
    ∙ rw (fine, size_again n most, side_of_sign below, le-ltb (10 ^ 24) n most)

signed_again : (z : ℤ) → signed (int_lt z (pos 0)) (unsigned_abs z) ≡ z
signed_again (pos n) = rw (not_below n)
signed_again (negsuc n) = refl

-- a number with few decimals is read again from its shortest text
pub shortest_read : (max : ℕ) (z : ℤ) → max ≤ 6 → unsigned_abs z ≤ 10 ^ 24 → unsigned_abs z % 10 ^ (6 - max) ≡ 0
    → decimal_of max (shortest z) ≡ Ok z
shortest_read max z few most multiple =
    ap (decimal_of max) (shortest_is z (int_lt z (pos 0)) (unsigned_abs z) refl refl)
    ∙ written_read max (int_lt z (pos 0)) (unsigned_abs z) most (low_multiple (unsigned_abs z) max few multiple)
    ∙ ap Ok (signed_again z)

-- the digits of the integer part have no leading zero next to others
whole_starts : (n : ℕ) → n < 2 ^ 64 → get_or (decimal n) 0 0 ≡ 48 → length (decimal n) ≡ 1
whole_starts zero small zero_first = ap length (decimal_digit 0 (omega arith))
whole_starts (suc n) small zero_first = absurd (omega (arith, first_decimal (suc n) (omega arith) small))

-- only numbers below zero have a minus
minus_below : (z : ℤ) → (sign_text (int_lt z (pos 0)) ≡ 45 ∷ []) ↔ (z <ℤ pos 0)
minus_below (pos n) = (
  λ e. let none = rw (not_below n) at e in let first : ◌≡◌ {A = ℕ} 0 45 =
      ap (λ xs. get_or xs 0 0) none in absurd (omega arith),
  λ h. absurd (omega (arith, ints, h)),
)
minus_below (negsuc n) = (λ _. omega (arith, ints), λ _. refl)

no_plus : (below : Bool) → sign_text below ≢ 43 ∷ []
no_plus true e = let first : ◌≡◌ {A = ℕ} 45 43 = ap (λ xs. get_or xs 0 0) e in omega arith
no_plus false e = let first : ◌≡◌ {A = ℕ} 0 43 = ap (λ xs. get_or xs 0 0) e in omega arith

-- decimals that are not zero are written
no_bare_point : (n : ℕ) → n < 10 ^ 6 → decimals n ≡ [] → fraction_text n ≡ []
no_bare_point zero small none = refl
no_bare_point (suc n) small none =
    let zeros : replicate 6 48 ≡ six_digits (suc n) =
    ap (λ xs. take 6 (xs ++ replicate 6 48)) (sym none) ∙ padded_again (six_digits (suc n)) in
    let value : 0 ≡ suc n = ap (digits_value 10) zeros ∙ six_value (suc n) small in
    absurd (omega arith)

-- the shortest text is the shortest
pub shortest_shape : (z : ℤ) → unsigned_abs z ≤ 10 ^ 24 → IsShortest z (shortest z)
shortest_shape z most =
    let n = unsigned_abs z in
    let below = int_lt z (pos 0) in
    let shape : IsShortest z (sign_text below ++ size_text n) = record {
      sign = sign_text below;
      whole = decimal (n / 10 ^ 6);
      tail = fraction_text (n % 10 ^ 6);
      fraction = decimals (n % 10 ^ 6);
      encoded = written_encoded below n most;
      no_plus = no_plus below;
      minus = minus_below z;
      digit_before = (decimal_is_IsNumeral_wide (n / 10 ^ 6) (omega arith)).0.0;
      no_leading_zero = whole_starts (n / 10 ^ 6) (omega arith);
      no_end_zero = last_is_no_zero (six_digits (n % 10 ^ 6));
      no_bare_point = no_bare_point (n % 10 ^ 6) (omega arith);
    } in
    rw (shortest_is z below n refl refl) shape

-- digits are plain bytes
pub digits_plain : (ds : List ℕ) → all_digits ds ≡ true → All IsPlainByte ds
digits_plain ds h = λ k d within. let range =
    digit_range (get_or ds k d) (AllPass-from_list_all is_ascii_digit ds h k d within) in (omega arith, omega arith, λ e. omega arith)

pub sign_plain : (below : Bool) → All IsPlainByte (sign_text below)
sign_plain true = All-cons IsPlainByte 45 [] (omega arith, omega arith, λ e. omega arith) (All-nil IsPlainByte)
sign_plain false = All-nil IsPlainByte

fraction_plain : (n : ℕ) → ((fraction_text n ≡ []) × (decimals n ≡ [])) ⊎ (fraction_text n ≡ 46 ∷ decimals n)
    → (All IsPlainByte (fraction_text n)) × (length (fraction_text n) ≤ 7)
fraction_plain n (inl none) = rw none.0 (All-nil IsPlainByte, omega arith)
fraction_plain n (inr is) =
    rw is (
      All-cons IsPlainByte 46 (decimals n) (omega arith, omega arith, λ e. omega arith)
          (digits_plain (decimals n) (decimals_pass n)),
      omega (arith, kept_length (six_digits n)),
    )

sign_length : (below : Bool) → length (sign_text below) ≤ 1
sign_length true = omega arith
sign_length false = omega arith

-- the integer part has 18 digits, or 19 and no decimals after it
size_short : (n : ℕ) → n ≤ 10 ^ 24 → length (fraction_text (n % 10 ^ 6)) ≤ 7 → length (size_text n) ≤ 25
size_short n most few = by (cases_lt (n / 10 ^ 6) (10 ^ 18))
  where
    by : (n / 10 ^ 6 < 10 ^ 18) ⊎ (10 ^ 18 ≤ n / 10 ^ 6) → length (size_text n) ≤ 25
    by (inl below) =
        let joined = length-append (decimal (n / 10 ^ 6)) (fraction_text (n % 10 ^ 6)) in
        omega (arith, joined, few, length-decimal-le_wide 18 (n / 10 ^ 6) (omega arith) (omega arith) (omega arith))
    by (inr at_most) =
        let joined = length-append (decimal (n / 10 ^ 6)) (fraction_text (n % 10 ^ 6)) in
        let none : n % 10 ^ 6 ≡ 0 = omega (arith, at_most, most) in
        let empty : length (fraction_text (n % 10 ^ 6)) ≡ 0 = rw none refl in
        omega (arith, joined, empty, length-decimal-le_wide 19 (n / 10 ^ 6) (omega arith) (omega arith) (omega arith))

-- the shortest text is plain
pub shortest_plain : (z : ℤ) → unsigned_abs z ≤ 10 ^ 24 → IsPlain (shortest z)
shortest_plain z most =
    let n = unsigned_abs z in
    let below = int_lt z (pos 0) in
    let numeral = decimal_is_IsNumeral_wide (n / 10 ^ 6) (omega arith) in
    let fraction = fraction_plain (n % 10 ^ 6) (point_part (n % 10 ^ 6)) in
    let size_length = length-append (decimal (n / 10 ^ 6)) (fraction_text (n % 10 ^ 6)) in
    let text_length = length-append (sign_text below) (size_text n) in
    let plain : IsPlain (sign_text below ++ size_text n) = record {
      some = omega (arith, text_length, size_length, numeral.0.0);
      short = omega (arith, text_length, size_short n most fraction.1, sign_length below);
      bytes = All-append IsPlainByte (sign_text below) (size_text n) (sign_plain below)
          (All-append IsPlainByte (decimal (n / 10 ^ 6)) (fraction_text (n % 10 ^ 6))
          (digits_plain (decimal (n / 10 ^ 6)) (digits_pass (decimal (n / 10 ^ 6)) numeral.0.1)) fraction.0);
    } in
    rw (shortest_is z below n refl refl) plain

-- an integer is written as its digits
pub whole_written : (k : ℕ) → shortest (pos (k * 10 ^ 6)) ≡ decimal k
whole_written k =
    let whole : k * 10 ^ 6 / 10 ^ 6 ≡ k = omega arith in
    let rest : k * 10 ^ 6 % 10 ^ 6 ≡ 0 = omega arith in
    shortest_is (pos (k * 10 ^ 6)) false (k * 10 ^ 6) (sym (not_below (k * 10 ^ 6))) refl ∙ rw (whole, rest) (append-nil (decimal k))

pub whole_read : (k : ℕ) → k ≤ 10 ^ 18 → decimal_of 0 (decimal k) ≡ Ok (pos (k * 10 ^ 6))
whole_read k most = ap (decimal_of 0) (sym (whole_written k)) ∙ shortest_read 0 (pos (k * 10 ^ 6)) (omega arith) (omega arith) (omega arith)

-- this number has 18 digits
eighteen : length (decimal 999999999999999999) ≡ 18
eighteen = by (cases_lt (length (decimal 999999999999999999)) 18)
  where
    by : (length (decimal 999999999999999999) < 18) ⊎ (18 ≤ length (decimal 999999999999999999)) → length (decimal 999999999999999999) ≡ 18
    by (inl few) =
        let numeral = decimal_is_IsNumeral_wide 999999999999999999 (omega arith) in
        let small = digits_value-lt 10 (decimal 999999999999999999) numeral.0.1 in
        let fewer : length (decimal 999999999999999999) ≤ 17 = omega (arith, few) in
        let less : 10 ^ length (decimal 999999999999999999) ≤ 10 ^ 17 = pow-le-pow_right {n = 10} (omega arith) fewer in
        absurd (omega (arith, numeral.1, small, less))
    by (inr many) = omega (arith, many, length-decimal-le_wide 18 999999999999999999 (omega arith) (omega arith) (omega arith))

long_text : length (45 ∷ size_text (10 ^ 24 - 1)) ≡ 26
long_text =
    let joined = length-append (decimal 999999999999999999) (fraction_text 999999) in
    let seven : length (fraction_text 999999) ≡ 7 = refl in
    omega (arith, joined, seven, eighteen)

pub longest_written : length (shortest (negsuc (10 ^ 24 - 2))) ≡ longest
unfolding shortest
longest_written = long_text
