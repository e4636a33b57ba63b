-- The start of a text.
use Rattle.std.specs.Prelude.{◌≡◌, ◌⊎◌, ℕ, ◌+◌, ◌*◌, ◌-◌, ◌^◌, ◌<◌, ◌≤◌, Bool, true, false, List, [], ◌∷◌, ◌++◌, length, drop, get_or, min, take, pos, zero, suc, Ok}
use Rattle.std.proofs.Common.{arith, refl, sym, ap, subst, ◌∙◌, inl, inr, append-nil, append_assoc, length-append}
use Rattle.std.specs.List.{All}
use Rattle.std.specs.Fmt.{sign_text}
use Rattle.std.specs.Str.Parse.{digits_value}
use Rattle.std.proofs.Math.Nat.{min-eq_left, min-eq_right, mul-lt-mul_of_pos_right, pow-zero}
use Rattle.std.proofs.lemmas.Bool.{and_parts, cases_lt}
use Rattle.std.proofs.lemmas.List.{drop_all, length-take, length-drop, take_all, take-append-drop}
use Rattle.std.proofs.lemmas.List.Elements.{All-append, All-cons}
use Rattle.std.proofs.lemmas.List.Sums.{prefix_len-le-length, prefix_len_passes}
use Rattle.std.specs.Char.{is_ascii_digit}
use Rattle.pit_units.proofs.Digits.{digits_alone, small_value}
use Rattle.pit_units.proofs.Standing.{size_of_signed, stands_read}
use Rattle.pit_units.proofs.Value.{size_product, value_append}
use Rattle.pit_units.proofs.Written.{digits_plain, side_of_sign, sign_part, sign_plain}
use Rattle.pit_units.specs.Decimal.{all_digits, signed}
use Rattle.pit_units.specs.StandsFor.{IsDecimalText, StandsFor}
use Rattle.pit_units.specs.Shortest.{IsPlainByte}
use Rattle.pit_units.specs.Prefix.{digits_ahead, past_point, BeginsWith, IsUsual}
use Rattle.pit_units.specs.inner.PrefixParts.{BeginsWithDecimals, BeginsWithDigits, BeginsWithSize}

-- the digits before a position
pub digits_up_to : (text : List ℕ) (i n : ℕ) → i ≤ length text
    → (i ≤ 18) × ((n < 10 ^ i) × ((n ≡ digits_value 10 (take i text)) × (all_digits (take i text) ≡ true)))
    → BeginsWithDigits text n (take (length text - i) (drop i text))
digits_up_to text i n within so_far =
    let long : length (take i text) ≡ i = omega (arith, length-take i text, within) in
    let rest : take (length text - i) (drop i text) ≡ drop i text =
    take_all (length text - i) (drop i text) (omega (arith, length-drop i text)) in
    record {
      digits = take i text;
      joined = sym (take-append-drop i text) ∙ ap (λ xs. take i text ++ xs) (sym rest);
      are_digits = so_far.1.1.1;
      few = rw long so_far.0;
      value = so_far.1.1.0;
      small = rw long so_far.1.0;
    }

-- digits up to the end
pub digits_alone_there : (text : List ℕ) (i n : ℕ) → length text ≡ i
    → (i ≤ 18) × ((n < 10 ^ i) × ((n ≡ digits_value 10 (take i text)) × (all_digits (take i text) ≡ true)))
    → BeginsWithDigits text n []
digits_alone_there text i n end so_far =
    let none = take_all (length text - i) (drop i text) (omega (arith, length-drop i text)) ∙ drop_all i text (omega (arith, end)) in
    subst (BeginsWithDigits text n) none (digits_up_to text i n (omega (arith, end)) so_far)

-- a sequence of digits at the start is no longer than the digits that a text begins with
all_ahead : (i : ℕ) (text : List ℕ) → i ≤ length text → all_digits (take i text) ≡ true → i ≤ digits_ahead text
all_ahead zero text within digits = omega arith
all_ahead (suc i) [] within digits = absurd (omega (arith, within))
all_ahead (suc i) (c ∷ text) within digits =
    let parts = and_parts (is_ascii_digit c) (all_digits (take i text)) digits in
    let more = all_ahead i text (omega (arith, within)) parts.1 in
    rw parts.0 (omega (arith, more))

-- digits that stop at the eighteenth, at the end or at another character are all the digits that count
pub most_digits : (text : List ℕ) (i : ℕ) → i ≤ length text → i ≤ 18 → all_digits (take i text) ≡ true
    → (i ≡ 18) ⊎ (digits_ahead text ≤ i) → i ≡ min 18 (digits_ahead text)
most_digits text i within few digits (inl all) = all ∙ sym (min-eq_left (omega (arith, all, all_ahead i text within digits)))
most_digits text i within few digits (inr end) =
    let same : digits_ahead text ≡ i = omega (arith, end, all_ahead i text within digits) in
    rw same (sym (min-eq_right few))

stops : (text : List ℕ) (i : ℕ) → is_ascii_digit (get_or text i 0) ≡ false → (i < digits_ahead text) ⊎ (digits_ahead text ≤ i)
    → digits_ahead text ≤ i
stops text i other (inl less) = let passes : is_ascii_digit (get_or text i 0) ≡ true =
    prefix_len_passes is_ascii_digit text i 0 less in cc (passes, other)
stops text i other (inr there) = there

-- digits end before another character
pub stops_there : (text : List ℕ) (i : ℕ) → is_ascii_digit (get_or text i 0) ≡ false → digits_ahead text ≤ i
stops_there text i other = stops text i other (cases_lt i (digits_ahead text))

-- the number of digits
pub digits_count : (text : List ℕ) (n : ℕ) (rest : List ℕ) (d : BeginsWithDigits text n rest) → length text ≡ length d.digits + length rest
digits_count text n rest d = ap length d.joined ∙ length-append d.digits rest

-- the text after the digits that were read
pub after_digits : (text : List ℕ) (i : ℕ) → i ≤ length text → i ≡ min 18 (digits_ahead text)
    → take (length text - i) (drop i text) ≡ drop (min 18 (digits_ahead text)) text
after_digits text i within most = take_all (length text - i) (drop i text) (omega (arith, length-drop i text)) ∙ ap (λ n. drop n text) most

-- nothing follows digits that reach the end
pub after_all_digits : (text : List ℕ) (i : ℕ) → length text ≡ i → i ≡ min 18 (digits_ahead text)
    → [] ≡ drop (min 18 (digits_ahead text)) text
after_all_digits text i end most = sym (drop_all (min 18 (digits_ahead text)) text (omega (arith, end, most)))

-- the text after the digits of a number in the usual form
pub after_usual : (max : ℕ) (text following : List ℕ) → following ≡ drop (min 18 (digits_ahead text)) text → IsUsual max text
    → following ≡ drop (digits_ahead text) text
after_usual max text following most usual = most ∙ ap (λ n. drop n text) (min-eq_right (omega (arith, usual.few)))

-- a number in the usual form has digits, and few of them
pub usual_is_taken : (max : ℕ) (text : List ℕ) (units : ℕ) (following : List ℕ) → BeginsWithDigits text units following
    → following ≡ drop (min 18 (digits_ahead text)) text → IsUsual max text → (length following < length text) × (units < 10 ^ 12)
usual_is_taken max text units following d most usual =
    let ahead = prefix_len-le-length is_ascii_digit text in
    let long : length following ≡ length text - digits_ahead text =
    ap length (after_usual max text following most usual) ∙ length-drop (digits_ahead text) text in
    let count = digits_count text units following d in
    (omega (arith, long, ahead, usual.some), small_value (length d.digits) 12 units (omega (arith, long, ahead, count, usual.few)) d.small)

-- few digits follow the point of a number in the usual form
pub usual_is_coarse : (max : ℕ) (text following tail : List ℕ) → following ≡ drop (min 18 (digits_ahead text)) text → following ≡ 46 ∷ tail
    → IsUsual max text
    → digits_ahead tail ≤ max
usual_is_coarse max text following tail most point usual =
    let past : past_point (drop (digits_ahead text) text) ≡ tail = ap past_point (sym (after_usual max text following most usual) ∙ point) in
    rw past at usual.coarse

some_digits : (text digits rest : List ℕ) → text ≡ digits ++ rest → (length rest ≡ length text → ⊥) → 0 < length digits
some_digits text [] rest joined other = absurd (other (sym (ap length joined)))
some_digits text (c ∷ cs) rest joined other = omega arith

-- an integer at the start
pub integer_leads : (text : List ℕ) (n : ℕ) (rest : List ℕ) → (length rest ≡ length text → ⊥) → BeginsWithDigits text n rest
    → BeginsWith 0 text (pos (n * 10 ^ 6)) rest
integer_leads text n rest other d =
    let some = some_digits text d.digits rest d.joined other in
    let small = small_value (length d.digits) 18 n d.few d.small in
    record {
      prefix = d.digits;
      joined = d.joined;
      some = some;
      bytes = digits_plain d.digits d.are_digits;
      stated = digits_alone 0 d.digits d.are_digits some (omega (arith, small, d.value)) ∙ ap (λ k. Ok (pos (k * 10 ^ 6))) (sym d.value);
    }

some_scale : (scale power : ℕ) → scale * power ≡ 10 ^ 6 → 0 < scale
some_scale zero power e = absurd (omega (arith, e))
some_scale (suc n) power e = omega arith

-- digits after a point
pub decimals_lead : (max : ℕ) (text : List ℕ) (n : ℕ) (rest : List ℕ) (scale : ℕ) → max ≤ 6 → length text - length rest ≤ max
    → BeginsWithDigits text n rest → scale * 10 ^ (length text - length rest) ≡ 10 ^ 6 → BeginsWithDecimals max text (n * scale) rest
decimals_lead max text n rest scale few count d scaled =
    let long : length text - length rest ≡ length d.digits = omega (arith, digits_count text n rest d) in
    let scaled_by : scale * 10 ^ length d.digits ≡ 10 ^ 6 = rw long at scaled in
    let product : n * (scale * 10 ^ length d.digits) ≡ n * 10 ^ 6 = ap (λ x. n * x) scaled_by in
    let positive : 0 < scale = some_scale scale (10 ^ length d.digits) scaled_by in
    record {
      digits = d.digits;
      joined = d.joined;
      are_digits = d.are_digits;
      few = omega (arith, long, count);
      value = omega (arith, product, d.value);
      small = omega (arith, scaled_by, mul-lt-mul_of_pos_right d.small positive);
    }

-- a number with a point
pub size_with_point : (max : ℕ) (text : List ℕ) (units : ℕ) (following tail : List ℕ) (size : ℕ) (rest : List ℕ)
    → BeginsWithDigits text units following
    → (length following ≡ length text → ⊥) → following ≡ 46 ∷ tail → BeginsWithDecimals max tail size rest
    → BeginsWithSize max text (units * 10 ^ 6 + size) rest
size_with_point max text units following tail size rest d other point e =
    let scale = 10 ^ length e.digits in
    record {
      whole = d.digits;
      tail = 46 ∷ e.digits;
      fraction = e.digits;
      joined = d.joined ∙ ap (λ xs. d.digits ++ xs) (point ∙ ap (λ xs. 46 ∷ xs) e.joined);
      some = some_digits text d.digits following d.joined other;
      point = inr refl;
      whole_digits = d.are_digits;
      fraction_digits = e.are_digits;
      few = e.few;
      value = omega (arith, d.value, e.value, size_product units size scale, value_append d.digits e.digits, ap (λ n. n * scale) d.value);
    }

-- a number without a point
pub size_of_units : (max : ℕ) (text : List ℕ) (units : ℕ) (rest : List ℕ) → BeginsWithDigits text units rest
    → (length rest ≡ length text → ⊥) → BeginsWithSize max text (units * 10 ^ 6) rest
size_of_units max text units rest d other = record {
  whole = d.digits;
  tail = [];
  fraction = [];
  joined = d.joined;
  some = some_digits text d.digits rest d.joined other;
  point = inl (refl, refl);
  whole_digits = d.are_digits;
  fraction_digits = refl;
  few = omega arith;
  value = omega (arith, d.value, pow-zero 10, ap (digits_value 10) (append-nil d.digits));
}

tail_plain : (tail fraction : List ℕ) → all_digits fraction ≡ true → ((tail ≡ []) × (fraction ≡ [])) ⊎ (tail ≡ 46 ∷ fraction)
    → All IsPlainByte tail
tail_plain tail fraction digits (inl none) = rw none.0 (digits_plain [] refl)
tail_plain tail fraction digits (inr is) =
    rw is (All-cons IsPlainByte 46 fraction (omega arith, omega arith, λ e. omega (arith, e)) (digits_plain fraction digits))

-- a decimal with its sign at the start
pub dec_leads : (max : ℕ) (text : List ℕ) (below : Bool) (unsigned : List ℕ) (size : ℕ) (rest : List ℕ) → max ≤ 6 → size < 2 * 10 ^ 18
    → text ≡ sign_text below ++ unsigned → BeginsWithSize max unsigned size rest → BeginsWith max text (signed below size) rest
dec_leads max text below unsigned size rest few small joined s =
    let prefix = sign_text below ++ (s.whole ++ s.tail) in
    let encoded : IsDecimalText prefix (sign_text below) s.whole s.tail s.fraction = record {
      joined = refl;
      signs = sign_part below;
      point = s.point;
      whole_digits = s.whole_digits;
      fraction_digits = s.fraction_digits;
      some_digit = omega (arith, s.some);
    } in
    let none : drop max s.fraction ≡ [] = drop_all max s.fraction s.few in
    let stands : StandsFor max prefix (signed below size) = record {
      sign = sign_text below;
      whole = s.whole;
      tail = s.tail;
      fraction = s.fraction;
      encoded = encoded;
      fine = rw none refl;
      value = rw (size_of_signed below size) s.value;
      side = rw (side_of_sign below, size_of_signed below size) refl;
      in_range = rw (size_of_signed below size) (omega (arith, small));
    } in
    record {
      prefix = prefix;
      joined = joined ∙ ap (λ xs. sign_text below ++ xs) (s.joined ∙ sym (append_assoc s.whole s.tail rest))
          ∙ sym (append_assoc (sign_text below) (s.whole ++ s.tail) rest);
      some = omega (arith, s.some, length-append (sign_text below) (s.whole ++ s.tail), length-append s.whole s.tail);
      bytes = All-append IsPlainByte _ _ (sign_plain below)
          (All-append IsPlainByte _ _ (digits_plain s.whole s.whole_digits) (tail_plain s.tail s.fraction s.fraction_digits s.point));
      stated = stands_read max prefix (signed below size) few stands;
    }
