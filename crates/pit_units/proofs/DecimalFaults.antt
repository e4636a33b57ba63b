-- The error of a number in a range is the first condition that its text violates.
use Rattle.std.specs.Prelude.{◌≡◌, ◌↔◌, ℕ, ◌≤◌, ◌&&◌, Bool, true, false, List, drop, ℤ, int_le, Result, Ok, Err, if◌then◌else◌}
use Rattle.std.proofs.Common.{refl, ◌∙◌, ap}
use Rattle.pit_units.proofs.EncodedFacts.{stands_within, within_stands}
use Rattle.pit_units.proofs.Standing.{encoded_number, encoded_too_fine, number_parts, pick, read_stands}
use Rattle.pit_units.specs.Decimal.{all_zeros, decimal_of, decimal_within, fraction_of, is_number, whole_of, within_bounds}
use Rattle.pit_units.specs.EncodedNumbers.{EncodesNumber, IsDecimal, IsFine}
use Rattle.pit_units.specs.StandsFor.{StandsFor}
use Rattle.pit_units.specs.declared.fault.DecFault.{DecFault}
use Rattle.pit_units.specs.declared.fault.DecFault.TheVariants.{Number, TooFine, Range}

-- the consequences of the tests of a decimal
pick_fine : (number fine large : Bool) (found : ℤ) → pick number fine large found ≡ Err TooFine → number ≡ true
pick_fine true fine large found e = refl
pick_fine false fine large found e = absurd cc

pick_range : (number fine large : Bool) (found : ℤ) → pick number fine large found ≡ Err Range → (number ≡ true) × (fine ≡ true)
pick_range true true large found e = (refl, refl)
pick_range _ _ large found e = absurd cc

-- a text that is too fine is a decimal, and a text out of range is fine enough
pub too_fine_decimal : (decimals : ℕ) (text : List ℕ) → decimal_of decimals text ≡ Err TooFine → IsDecimal text
unfolding decimal_of
too_fine_decimal decimals text e =
    let p = number_parts text (pick_fine (is_number text) (all_zeros (drop decimals (fraction_of text))) _ _ e) in
    (p.sign, whole_of text, p.tail, fraction_of text, p.encoded)

pub out_of_range_fine : (decimals : ℕ) (text : List ℕ) → decimal_of decimals text ≡ Err Range → IsFine decimals text
unfolding decimal_of
out_of_range_fine decimals text e =
    let h = pick_range (is_number text) (all_zeros (drop decimals (fraction_of text))) _ _ e in
    let p = number_parts text h.0 in
    (p.sign, whole_of text, p.tail, fraction_of text, p.encoded, h.1)

pub fine_decimal : (decimals : ℕ) (text : List ℕ) → IsFine decimals text → IsDecimal text
fine_decimal decimals text f = (f.0, f.1, f.2, f.3, f.4)

pub stands_fine : (decimals : ℕ) (text : List ℕ) (m : ℤ) → StandsFor decimals text m → IsFine decimals text
stands_fine decimals text m s = (s.sign, s.whole, s.tail, s.fraction, s.encoded, s.fine)

module _ (decimals : ℕ) (low high : ℤ) (text : List ℕ) (few : decimals ≤ 6) where
  abbrev OutOfRange : Type 0
  OutOfRange = (m : ℤ) → ¬ (EncodesNumber decimals low high text m)

  -- the consequence of each result
  abbrev Reports : Result ℤ DecFault → Type 0
  Reports (Ok m) = EncodesNumber decimals low high text m
  Reports (Err Number) = ¬ (IsDecimal text)
  Reports (Err TooFine) = IsDecimal text × ¬ (IsFine decimals text)
  Reports (Err Range) = IsFine decimals text × OutOfRange

  reports : Reports (decimal_within decimals low high text)
  unfolding decimal_within
  reports = by (decimal_of decimals text) refl
    where
      none : decimal_within decimals low high text ≡ Err Range → OutOfRange
      none e m h = absurd (cc (e, stands_within decimals low high text m few h))

      kept : (m : ℤ) → decimal_of decimals text ≡ Ok m → (t : Bool) → (int_le low m && int_le m high) ≡ t
          → Reports (if t then Ok m else Err Range)
      kept m is true e = within_stands decimals low high text m few (ap (within_bounds low high) is ∙ rw e refl)
      kept m is false e = (
        stands_fine decimals text m (read_stands decimals text m few is),
        none (ap (within_bounds low high) is ∙ rw e refl),
      )

      by : (d : Result ℤ DecFault) → decimal_of decimals text ≡ d → Reports (within_bounds low high d)
      by (Ok m) is = kept m is (int_le low m && int_le m high) refl
      by (Err Number) is = λ d. encoded_number decimals text d.0 d.1 d.2 d.3 d.4 is
      by (Err TooFine) is = (too_fine_decimal decimals text is, λ f. (encoded_too_fine decimals text f.0 f.1 f.2 f.3 f.4).0 is f.5)
      by (Err Range) is = (out_of_range_fine decimals text is, none (ap (within_bounds low high) is))

  fine : (m : ℤ) → EncodesNumber decimals low high text m → IsFine decimals text
  fine m h = stands_fine decimals text m h.0

  pub number_fails : (decimal_within decimals low high text ≡ Err Number) ↔ ¬ (IsDecimal text)
  number_fails = by (decimal_within decimals low high text) reports
    where
      by : (r : Result ℤ DecFault) → Reports r → (r ≡ Err Number) ↔ ¬ (IsDecimal text)
      by (Ok m) h = (λ e. absurd cc, λ n. absurd (n (fine_decimal decimals text (fine m h))))
      by (Err Number) h = (λ e. h, λ n. refl)
      by (Err TooFine) h = (λ e. absurd cc, λ n. absurd (n h.0))
      by (Err Range) h = (λ e. absurd cc, λ n. absurd (n (fine_decimal decimals text h.0)))

  pub too_fine_fails : (decimal_within decimals low high text ≡ Err TooFine) ↔ (IsDecimal text × ¬ (IsFine decimals text))
  too_fine_fails = by (decimal_within decimals low high text) reports
    where
      by : (r : Result ℤ DecFault) → Reports r → (r ≡ Err TooFine) ↔ (IsDecimal text × ¬ (IsFine decimals text))
      by (Ok m) h = (λ e. absurd cc, λ n. absurd (n.1 (fine m h)))
      by (Err Number) h = (λ e. absurd cc, λ n. absurd (h n.0))
      by (Err TooFine) h = (λ e. h, λ n. refl)
      by (Err Range) h = (λ e. absurd cc, λ n. absurd (n.1 h.0))

  pub range_fails : (decimal_within decimals low high text ≡ Err Range) ↔ (IsFine decimals text × OutOfRange)
  range_fails = by (decimal_within decimals low high text) reports
    where
      by : (r : Result ℤ DecFault) → Reports r → (r ≡ Err Range) ↔ (IsFine decimals text × OutOfRange)
      by (Ok m) h = (λ e. absurd cc, λ n. absurd (n.1 m h))
      by (Err Number) h = (λ e. absurd cc, λ n. absurd (h (fine_decimal decimals text n.0)))
      by (Err TooFine) h = (λ e. absurd cc, λ n. absurd (h.1 n.0))
      by (Err Range) h = (λ e. h, λ n. refl)
