-- No text but the shortest is as short.
use Rattle.std.specs.Prelude.{◌≡◌, ◌≢◌, ◌↔◌, ℕ, ◌+◌, ◌-◌, ◌/◌, ◌%◌, ◌^◌, ◌<◌, ◌≤◌, true, ◌⊎◌, List, [], ◌∷◌, ◌++◌, length, get_or, take, drop, replicate, ◌==◌, ℤ, pos, negsuc, unsigned_abs, int_lt, nat_lt, ◌<ℤ◌}
use Rattle.std.proofs.Common.{arith, refl, ap, sym, ◌∙◌, inl, inr}
use Rattle.std.proofs.Math.Seq.{take-append-add}
use Rattle.std.proofs.lemmas.Bool.{cases_lt}
use Rattle.std.proofs.lemmas.Fmt.{decimal-digits_value}
use Rattle.std.proofs.lemmas.Int.{ints}
use Rattle.std.proofs.lemmas.Int.Digits.{digits_value-lt}
use Rattle.std.proofs.lemmas.List.{get_or_append_left, get_or-append_right, get_or-drop, get_or-replicate, length-append, length-drop, length-replicate, take_at, take-replicate}
use Rattle.std.proofs.lemmas.List.Sums.{AllPass-from_list_all, suffix_len_is}
use Rattle.std.proofs.lemmas.Str.Parse.{numerals_by_value, tells_digits}
use Rattle.std.proofs.lemmas.Bool.{eqb-true, ne_eqb, eq-eqb}
use Rattle.std.specs.Char.{is_ascii_digit}
use Rattle.std.specs.Fmt.{decimal, sign_text}
use Rattle.std.specs.List.{suffix_len}
use Rattle.std.specs.Str.Parse.{AllDigits, digits_value, starts_with_minus}
use Rattle.pit_units.specs.Decimal.{all_digits, all_zeros, six_decimals, size_of, signed, six_digits, without_end_zeros, fraction_text, shortest}
use Rattle.pit_units.specs.StandsFor.{StandsFor}
use Rattle.pit_units.specs.Shortest.{IsShortest}
use Rattle.pit_units.proofs.Encoding.{reads}
use Rattle.pit_units.proofs.Standing.{picked, size_of_signed, stands_read}
use Rattle.pit_units.proofs.Text.{not_below, shortest_is}
use Rattle.pit_units.proofs.Value.{digits_all, pass_append, same_digits, zeros_pass}
use Rattle.pit_units.proofs.Written.{decimals, point_part, six_pass, six_value}

-- digits without a leading zero are the text of their value
whole_unique : (ds : List ℕ) → all_digits ds ≡ true → 0 < length ds → (get_or ds 0 0 ≡ 48 → length ds ≡ 1) → digits_value 10 ds < 2 ^ 64
    → decimal (digits_value 10 ds) ≡ ds
whole_unique ds digits some leading small =
    decimal-digits_value (numerals_by_value (AllDigits 10) tells_digits) ds (digits_all ds digits) some leading small

-- a fraction without a zero at its end has no more decimals than allowed
fraction_short : (fraction : List ℕ) → all_zeros (drop 6 fraction) ≡ true
    → (0 < length fraction → get_or fraction (length fraction - 1) 0 ≢ 48) → (6 < length fraction) ⊎ (length fraction ≤ 6)
    → length fraction ≤ 6
fraction_short fraction fine ends (inr short) = short
fraction_short fraction fine ends (inl long) =
    let within : length fraction - 7 < length (drop 6 fraction) = omega (arith, length-drop 6 fraction) in
    let last : get_or (drop 6 fraction) (length fraction - 7) 0 ≡ 48 =
    eqb-true _ 48 (AllPass-from_list_all (λ c. c == 48) (drop 6 fraction) fine (length fraction - 7) 0 within) in
    let place : 6 + (length fraction - 7) ≡ length fraction - 1 = omega arith in
    absurd (ends (omega arith) (ap (λ k. get_or fraction k 0) (sym place) ∙ sym (get_or-drop 6 fraction (length fraction - 7) 0) ∙ last))

-- six digits are the digits of their value
six_unique : (ds : List ℕ) → length ds ≡ 6 → AllDigits 10 ds → six_digits (digits_value 10 ds) ≡ ds
six_unique ds six digits =
    let n = digits_value 10 ds in
    let small : n < 10 ^ 6 = rw six at (digits_value-lt 10 ds digits) in
    same_digits (six_digits n) ds (digits_all (six_digits n) (six_pass n)) digits (sym six) (six_value n small)

-- removes the zeros that were appended
cut_again : (fraction : List ℕ) → length fraction ≤ 6 → (0 < length fraction → get_or fraction (length fraction - 1) 0 ≢ 48)
    → without_end_zeros (fraction ++ replicate (6 - length fraction) 48) ≡ fraction
cut_again fraction short ends =
    let padded = fraction ++ replicate (6 - length fraction) 48 in
    let long : length padded ≡ length fraction + (6 - length fraction) =
    length-append fraction (replicate (6 - length fraction) 48)
    ∙ ap (λ n. length fraction + n) (length-replicate (6 - length fraction) 48) in
    let zeros : suffix_len (λ c. c == 48) padded ≡ length padded - length fraction =
    suffix_len_is (λ c. c == 48) padded (length fraction) 0 (omega arith)
    (λ k from within. eq-eqb _ 48 (get_or-append_right fraction (replicate (6 - length fraction) 48) (length fraction) k 0 refl from
    ∙ get_or-replicate (6 - length fraction) (k - length fraction) 48 0 (omega arith)))
    (λ some. ne_eqb _ 48 (λ e. ends some
    (sym (get_or_append_left fraction (replicate (6 - length fraction) 48) 0 (length fraction - 1) (omega arith)) ∙ e))) in
    let kept : length padded - suffix_len (λ c. c == 48) padded ≡ length fraction = omega arith in
    rw kept (take_at fraction (replicate (6 - length fraction) 48) (length fraction) refl)

-- six decimals of a short fraction
six_of_short : (fraction : List ℕ) → length fraction ≤ 6 → six_decimals fraction ≡ fraction ++ replicate (6 - length fraction) 48
six_of_short fraction short =
    let whole : length fraction + (6 - length fraction) ≡ 6 = omega arith in
    ap (λ n. take n (fraction ++ replicate 6 48)) (sym whole)
    ∙ take-append-add fraction (replicate 6 48) (6 - length fraction)
    ∙ ap (λ xs. fraction ++ xs) (take-replicate (6 - length fraction) 6 48 (omega arith))

-- the six decimals of a short fraction are six digits
six_are_digits : (fraction : List ℕ) → all_digits fraction ≡ true → length fraction ≤ 6 → (length (six_decimals fraction) ≡ 6)
    × AllDigits 10 (six_decimals fraction)
six_are_digits fraction digits short =
    let padded = six_of_short fraction short in
    let pass : all_digits (six_decimals fraction) ≡ true =
    rw padded (pass_append is_ascii_digit fraction (replicate (6 - length fraction) 48) digits (zeros_pass is_ascii_digit (6 - length fraction) refl)) in (
      ap length padded ∙ length-append fraction (replicate (6 - length fraction) 48)
          ∙ omega (arith, length-replicate {A = ℕ} (6 - length fraction) 48),
      digits_all (six_decimals fraction) pass,
    )

six_small : (fraction : List ℕ) → all_digits fraction ≡ true → length fraction ≤ 6 → digits_value 10 (six_decimals fraction) < 10 ^ 6
six_small fraction digits short =
    let six = six_are_digits fraction digits short in
    let below = digits_value-lt 10 (six_decimals fraction) six.1 in
    rw six.0 at below

-- a fraction without a zero at its end is the text of its value
fraction_unique : (fraction : List ℕ) → all_digits fraction ≡ true → length fraction ≤ 6
    → (0 < length fraction → get_or fraction (length fraction - 1) 0 ≢ 48) → decimals (digits_value 10 (six_decimals fraction)) ≡ fraction
fraction_unique fraction digits short ends =
    let six = six_are_digits fraction digits short in
    ap without_end_zeros (six_unique (six_decimals fraction) six.0 six.1 ∙ six_of_short fraction short) ∙ cut_again fraction short ends

-- the sign that is written
sign_unique : (z : ℤ) (sign : List ℕ) → (sign ≡ []) ⊎ ((sign ≡ 43 ∷ []) ⊎ (sign ≡ 45 ∷ [])) → sign ≢ 43 ∷ [] → (sign ≡ 45 ∷ [])
    ↔ (z <ℤ pos 0) → sign_text (int_lt z (pos 0)) ≡ sign
sign_unique (negsuc n) sign signs plus minus = sym (minus.1 (omega (arith, ints)))
sign_unique (pos n) sign (inl none) plus minus = rw (not_below n) (sym none)
sign_unique (pos n) sign (inr (inl is_plus)) plus minus = absurd (plus is_plus)
sign_unique (pos n) sign (inr (inr is_minus)) plus minus = let below = minus.0 is_minus in absurd (omega (arith, ints, below))

-- the point that is written
tail_unique : (tail fraction : List ℕ) (n : ℕ) → n ≡ digits_value 10 (six_decimals fraction) → decimals n ≡ fraction
    → ((tail ≡ []) × (fraction ≡ [])) ⊎ (tail ≡ 46 ∷ fraction) → (fraction ≡ [] → tail ≡ []) → ((fraction_text n ≡ []) × (decimals n ≡ []))
    ⊎ (fraction_text n ≡ 46 ∷ decimals n) → fraction_text n ≡ tail
tail_unique tail fraction n value same point bare (inl none) = none.0 ∙ sym (bare (sym same ∙ none.1))
tail_unique tail fraction n value same (inr is) bare (inr written) = written ∙ ap (λ xs. 46 ∷ xs) same ∙ sym is
tail_unique tail fraction n value same (inl none) bare (inr written) =
    let zero_value : n ≡ 0 = value ∙ ap (λ xs. digits_value 10 (six_decimals xs)) none.1 in
    ap fraction_text zero_value ∙ sym none.0

-- a text that denotes z and has no needless bytes is the written one
pub only_shortest : (z : ℤ) (text : List ℕ) → StandsFor 6 text z → IsShortest z text → text ≡ shortest z
only_shortest z text stands s =
    let size = size_of s.whole s.fraction in
    let read = sym (reads 6 text s.sign s.whole s.tail s.fraction s.encoded) ∙ stands_read 6 text z (omega arith) stands in
    let reported = picked true (all_zeros (drop 6 s.fraction)) (nat_lt (10 ^ 24) size) (signed (starts_with_minus s.sign) size) z read in
    let away : unsigned_abs z ≡ size = ap unsigned_abs (sym reported.3) ∙ size_of_signed (starts_with_minus s.sign) size in
    let in_range = stands.in_range in
    let short = fraction_short s.fraction reported.1 s.no_end_zero (cases_lt _ _) in
    let rest = digits_value 10 (six_decimals s.fraction) in
    let small = six_small s.fraction s.encoded.fraction_digits short in
    let whole_value : unsigned_abs z / 10 ^ 6 ≡ digits_value 10 s.whole = omega arith in
    let rest_value : unsigned_abs z % 10 ^ 6 ≡ rest = omega arith in
    let whole : decimal (unsigned_abs z / 10 ^ 6) ≡ s.whole =
    ap decimal whole_value ∙ whole_unique s.whole s.encoded.whole_digits s.digit_before s.no_leading_zero (omega arith) in
    let fraction = fraction_unique s.fraction s.encoded.fraction_digits short s.no_end_zero in
    let tail : fraction_text (unsigned_abs z % 10 ^ 6) ≡ s.tail =
    ap fraction_text rest_value ∙ tail_unique s.tail s.fraction rest refl fraction s.encoded.point s.no_bare_point (point_part rest) in
    let sign = sign_unique z s.sign s.encoded.signs s.no_plus s.minus in
    s.encoded.joined
    ∙ ap (λ xs. xs ++ (s.whole ++ s.tail)) (sym sign)
    ∙ ap (λ xs. sign_text (int_lt z (pos 0)) ++ (xs ++ s.tail)) (sym whole)
    ∙ ap (λ xs. sign_text (int_lt z (pos 0)) ++ (decimal (unsigned_abs z / 10 ^ 6) ++ xs)) (sym tail)
    ∙ sym (shortest_is z (int_lt z (pos 0)) (unsigned_abs z) refl refl)
