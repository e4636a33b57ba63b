-- Decimal texts and the numbers that they denote, as relations.
use Rattle.std.specs.Prelude.{◌≡◌, ℕ, ◌+◌, ◌*◌, ◌^◌, ◌<◌, ◌⊎◌, List, [], ◌∷◌, ◌++◌, length, drop, ℤ, unsigned_abs, IsTrue}
use Rattle.std.specs.Str.Parse.{digits_value, starts_with_minus}
use Rattle.pit_units.specs.Decimal.{all_digits, all_zeros, signed}
use Rattle.pit_units.specs.DecimalRange.{IsInDecimalRange}

-- a text is an optional sign, digits, and optionally a point with digits after it; there is a digit
pub record IsDecimalText (text sign whole tail fraction : List ℕ) : Type 0 where
  pub joined : text ≡ sign ++ (whole ++ tail)
  pub signs : (sign ≡ []) ⊎ ((sign ≡ 43 ∷ []) ⊎ (sign ≡ 45 ∷ []))
  pub point : ((tail ≡ []) × (fraction ≡ [])) ⊎ (tail ≡ 46 ∷ fraction)
  pub whole_digits : IsTrue (all_digits whole)
  pub fraction_digits : IsTrue (all_digits fraction)
  pub some_digit : 0 < length whole + length fraction

-- the text denotes m millionths, with `max` decimals allowed: the result of `decimal_of` as a relation
pub record StandsFor (max : ℕ) (text : List ℕ) (m : ℤ) : Type 0 where
  pub sign : List ℕ
  pub whole : List ℕ
  pub tail : List ℕ
  pub fraction : List ℕ
  pub encoded : IsDecimalText text sign whole tail fraction
  pub fine : IsTrue (all_zeros (drop max fraction))
  pub value : unsigned_abs m * 10 ^ length fraction ≡ digits_value 10 (whole ++ fraction) * 10 ^ 6
  pub side : m ≡ signed (starts_with_minus sign) (unsigned_abs m)
  pub in_range : IsInDecimalRange m
