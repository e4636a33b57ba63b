-- A text is read as the number that it denotes, and it denotes the number that is read.
use Rattle.std.specs.Prelude.{◌≡◌, ◌≢◌, ◌↔◌, ℕ, zero, suc, ◌+◌, ◌*◌, ◌^◌, ◌<◌, ◌≤◌, Bool, true, false, not, ◌&&◌, ◌⊎◌, List, [], ◌∷◌, ◌++◌, length, take, drop, Result, Ok, Err, ℤ, unsigned_abs, nat_lt, if◌then◌else◌, ◌==◌}
use Rattle.std.proofs.Common.{arith, refl, ap, sym, ◌∙◌, inl, inr, append-nil}
use Rattle.std.proofs.Math.Nat.{eq_of_mul-eq-mul_right, lt_of_mul-lt-mul_right, mul-lt-mul_of_pos_right, pow-zero, pow-succ'}
use Rattle.std.proofs.lemmas.Bool.{and_parts, cases_lt}
use Rattle.std.proofs.lemmas.Bool.Decides.{nat_tests}
use Rattle.std.proofs.lemmas.List.{take_all, drop_all}
use Rattle.std.proofs.lemmas.List.Sums.{passes_at_first, split_at_first}
use Rattle.std.proofs.lemmas.Bool.{eqb-true, ltb-true, ltb-false, le-ltb, lt-ltb}
use Rattle.std.specs.List.{position_or_len}
use Rattle.std.specs.Str.Parse.{digits_value, starts_with_minus, without_leading_sign}
use Rattle.pit_units.specs.Decimal.{all_digits, all_zeros, whole_of, fraction_of, is_number, size_of, signed, decimal_of}
use Rattle.pit_units.specs.StandsFor.{IsDecimalText, StandsFor}
use Rattle.pit_units.specs.declared.fault.DecFault.{DecFault}
use Rattle.pit_units.specs.declared.fault.DecFault.TheVariants.{Number, TooFine, Range}
use Rattle.pit_units.proofs.Encoding.{reads}
use Rattle.pit_units.proofs.Value.{pass_drop_later, size_scaled}

pub scale_positive : (n : ℕ) → 0 < 10 ^ n
scale_positive zero = omega (arith, pow-zero 10)
scale_positive (suc n) = omega (arith, pow-succ' 10 n, scale_positive n)

-- a text that denotes m has the size of m
pub size_stands : (whole fraction : List ℕ) (size : ℕ) → all_zeros (drop 6 fraction) ≡ true
    → size * 10 ^ length fraction ≡ digits_value 10 (whole ++ fraction) * 10 ^ 6 → size_of whole fraction ≡ size
size_stands whole fraction size fine value =
    eq_of_mul-eq-mul_right (10 ^ length fraction) (scale_positive (length fraction)) (size_of whole fraction) size
    (size_scaled whole fraction fine ∙ sym value)

-- a text is read as the number that it denotes
pub stands_read : (max : ℕ) (text : List ℕ) (m : ℤ) → max ≤ 6 → StandsFor max text m → decimal_of max text ≡ Ok m
stands_read max text m few s =
    let size = size_stands s.whole s.fraction (unsigned_abs m) (pass_drop_later (λ c. c == 48) s.fraction max 6 few s.fine) s.value in
    reads max text s.sign s.whole s.tail s.fraction s.encoded
    ∙ rw (s.fine, size, le-ltb (10 ^ 24) (unsigned_abs m) s.in_range) (ap Ok (sym s.side))

-- the four tests of a text, one after another
abbrev pub pick : Bool → Bool → Bool → ℤ → Result ℤ DecFault
pick number fine large m = if not number then Err Number else (if not fine then Err TooFine else (if large then Err Range else Ok m))

pub picked : (number fine large : Bool) (found m : ℤ) → pick number fine large found ≡ Ok m → (number ≡ true) × (fine ≡ true)
    × (large ≡ false) × (found ≡ m)
picked true true false found m e = (refl, refl, refl, cc)
picked _ _ _ found m e = cc

-- the sign of a text
record SignOff (text : List ℕ) : Type 0 where
  pub sign : List ℕ
  pub joined : text ≡ sign ++ without_leading_sign text
  pub signs : (sign ≡ []) ⊎ ((sign ≡ 43 ∷ []) ⊎ (sign ≡ 45 ∷ []))
  pub side : starts_with_minus sign ≡ starts_with_minus text

sign_off : (text : List ℕ) → SignOff text
sign_off [] = record { sign = []; joined = refl; signs = inl refl; side = refl }
sign_off (c ∷ cs) = by (c == 45) (c == 43) refl refl
  where
    by : (minus plus : Bool) → minus ≡ (c == 45) → plus ≡ (c == 43) → SignOff (c ∷ cs)
    by true plus m p =
        record { sign = 45 ∷ []; joined = rw (← m) (ap (λ b. b ∷ cs) (eqb-true c 45 (sym m))); signs = inr (inr refl); side = m }
    by false true m p =
        record { sign = 43 ∷ []; joined = rw (← m, ← p) (ap (λ b. b ∷ cs) (eqb-true c 43 (sym p))); signs = inr (inl refl); side = m }
    by false false m p = record { sign = []; joined = rw (← m, ← p) refl; signs = inl refl; side = m }

abbrev is_point : ℕ → Bool
is_point c = c == 46

-- the point of a text after its sign
record PointOff (bare : List ℕ) : Type 0 where
  pub tail : List ℕ
  pub joined : bare ≡ take (position_or_len is_point bare) bare ++ tail
  pub point : ((tail ≡ []) × (drop (position_or_len is_point bare + 1) bare ≡ []))
      ⊎ (tail ≡ 46 ∷ drop (position_or_len is_point bare + 1) bare)

point_off : (bare : List ℕ) → (position_or_len is_point bare < length bare) ⊎ (length bare ≤ position_or_len is_point bare) → PointOff bare
point_off bare (inl within) = record {
  tail = 46 ∷ drop (position_or_len is_point bare + 1) bare;
  joined = split_at_first is_point bare 0 within
      ∙ ap (λ c. take (position_or_len is_point bare) bare ++ c ∷ drop (position_or_len is_point bare + 1) bare)
      (eqb-true _ 46 (passes_at_first is_point bare 0 within));
  point = inr refl;
}
point_off bare (inr none) = record {
  tail = [];
  joined = sym (take_all (position_or_len is_point bare) bare none) ∙ sym (append-nil _);
  point = inl (refl, drop_all (position_or_len is_point bare + 1) bare (omega arith));
}

-- a number is split into parts
pub record Parts (text : List ℕ) : Type 0 where
  pub sign : List ℕ
  pub tail : List ℕ
  pub encoded : IsDecimalText text sign (whole_of text) tail (fraction_of text)
  pub side : starts_with_minus sign ≡ starts_with_minus text

some_from : (n : ℕ) → not (n == 0) ≡ true → 0 < n
some_from n h = grind (arith, nat_tests)

pub number_parts : (text : List ℕ) → is_number text ≡ true → Parts text
number_parts text number =
    let off = sign_off text in
    let bare = without_leading_sign text in
    let point = point_off bare (cases_lt _ _) in
    let outer = and_parts (all_digits (whole_of text) && all_digits (fraction_of text))
    (not (length (whole_of text) + length (fraction_of text) == 0)) number in
    let digits = and_parts (all_digits (whole_of text)) (all_digits (fraction_of text)) outer.0 in
    record {
      sign = off.sign;
      tail = point.tail;
      encoded = record {
        joined = off.joined ∙ ap (λ xs. off.sign ++ xs) point.joined;
        signs = off.signs;
        point = point.point;
        whole_digits = digits.0;
        fraction_digits = digits.1;
        some_digit = some_from (length (whole_of text) + length (fraction_of text)) outer.1;
      };
      side = off.side;
    }

pub size_of_signed : (below : Bool) (n : ℕ) → unsigned_abs (signed below n) ≡ n
size_of_signed true (suc n) = refl
size_of_signed _ _ = refl

-- a text denotes the number that is read
pub read_stands : (max : ℕ) (text : List ℕ) (m : ℤ) → max ≤ 6 → decimal_of max text ≡ Ok m → StandsFor max text m
unfolding decimal_of
read_stands max text m few read =
    let size = size_of (whole_of text) (fraction_of text) in
    let reported = picked (is_number text) (all_zeros (drop max (fraction_of text))) (nat_lt (10 ^ 24) size)
    (signed (starts_with_minus text) size) m read in
    let parts = number_parts text reported.0 in
    let away : unsigned_abs m ≡ size = ap unsigned_abs (sym reported.3) ∙ size_of_signed (starts_with_minus text) size in
    record {
      sign = parts.sign;
      whole = whole_of text;
      tail = parts.tail;
      fraction = fraction_of text;
      encoded = parts.encoded;
      fine = reported.1;
      value = rw away (size_scaled (whole_of text) (fraction_of text) (pass_drop_later (λ c. c == 48) (fraction_of text) max 6 few reported.1));
      side = rw (away, parts.side) (sym reported.3);
      in_range = rw away (ltb-false (10 ^ 24) size reported.2);
    }

reading_number : (fine large : Bool) (m : ℤ) → pick true fine large m ≢ Err Number
reading_number true true m e = cc
reading_number _ _ m e = cc

-- an encoded text is a number, and a number is an encoded text
pub encoded_number : (max : ℕ) (text sign whole tail fraction : List ℕ) → IsDecimalText text sign whole tail fraction
    → decimal_of max text ≢ Err Number
encoded_number max text sign whole tail fraction s e = reading_number _ _ _ (sym (reads max text sign whole tail fraction s) ∙ e)

pub number_encoded : (max : ℕ) (text : List ℕ) → ((sign whole tail fraction : List ℕ) → ¬ (IsDecimalText text sign whole tail fraction))
    → decimal_of max text ≡ Err Number
unfolding decimal_of
number_encoded max text none = by (is_number text) refl
  where
    by : (number : Bool) → number ≡ is_number text → decimal_of max text ≡ Err Number
    by false h = rw (← h)
    by true h = let parts =
        number_parts text (sym h) in absurd (none parts.sign (whole_of text) parts.tail (fraction_of text) parts.encoded)

-- the conditions for an encoded text to be too fine, or out of range
reading_fine : (fine large : Bool) (m : ℤ) → (pick true fine large m ≡ Err TooFine) ↔ ¬ (fine ≡ true)
reading_fine false large m = (λ e t. cc, λ n. refl)
reading_fine true true m = (λ e. cc, λ n. absurd (n refl))
reading_fine true false m = (λ e. cc, λ n. absurd (n refl))

reading_range : (fine large : Bool) (m : ℤ) → fine ≡ true → (pick true fine large m ≡ Err Range) ↔ (large ≡ true)
reading_range true true m h = (λ e. refl, λ e. refl)
reading_range true false m h = (λ e. cc, λ e. cc)
reading_range false large m h = cc

pub encoded_too_fine : (max : ℕ) (text sign whole tail fraction : List ℕ) → IsDecimalText text sign whole tail fraction
    → (decimal_of max text ≡ Err TooFine) ↔ ¬ (all_zeros (drop max fraction) ≡ true)
encoded_too_fine max text sign whole tail fraction s =
    rw (reads max text sign whole tail fraction s)
    (reading_fine (all_zeros (drop max fraction)) (nat_lt (10 ^ 24) (size_of whole fraction))
    (signed (starts_with_minus sign) (size_of whole fraction)))

pub encoded_range : (max : ℕ) (text sign whole tail fraction : List ℕ) → max ≤ 6 → IsDecimalText text sign whole tail fraction
    → all_zeros (drop max fraction) ≡ true → (decimal_of max text ≡ Err Range)
    ↔ (10 ^ 24 * 10 ^ length fraction < digits_value 10 (whole ++ fraction) * 10 ^ 6)
encoded_range max text sign whole tail fraction few s fine =
    let size = size_of whole fraction in
    let scaled = size_scaled whole fraction (pass_drop_later (λ c. c == 48) fraction max 6 few fine) in
    let by_test = reading_range (all_zeros (drop max fraction)) (nat_lt (10 ^ 24) size) (signed (starts_with_minus sign) size) fine in
    rw (reads max text sign whole tail fraction s, ← scaled) (
      (λ e. mul-lt-mul_of_pos_right (ltb-true (10 ^ 24) size (by_test.0 e)) (scale_positive (length fraction))),
      (λ l. by_test.1 (lt-ltb (10 ^ 24) size (lt_of_mul-lt-mul_right (10 ^ length fraction) l))),
    )
