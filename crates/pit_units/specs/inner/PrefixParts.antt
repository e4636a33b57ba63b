-- The start of a text, by the parts of a decimal.
use Rattle.std.specs.Prelude.{◌≡◌, ◌⊎◌, ℕ, ◌*◌, ◌^◌, ◌<◌, ◌≤◌, List, [], ◌∷◌, ◌++◌, length, true}
use Rattle.std.specs.Str.Parse.{digits_value}
use Rattle.pit_units.specs.Decimal.{all_digits}

-- the text begins with at most 18 digits, with this number, followed by the remainder
pub record BeginsWithDigits (text : List ℕ) (n : ℕ) (rest : List ℕ) : Type 0 where
  pub digits : List ℕ
  pub joined : text ≡ digits ++ rest
  pub are_digits : all_digits digits ≡ true
  pub few : length digits ≤ 18
  pub value : n ≡ digits_value 10 digits
  pub small : n < 10 ^ length digits

-- the text begins with at most `max` digits, which after a point denote this number of millionths, followed by the remainder
pub record BeginsWithDecimals (max : ℕ) (text : List ℕ) (size : ℕ) (rest : List ℕ) : Type 0 where
  pub digits : List ℕ
  pub joined : text ≡ digits ++ rest
  pub are_digits : all_digits digits ≡ true
  pub few : length digits ≤ max
  pub value : size * 10 ^ length digits ≡ digits_value 10 digits * 10 ^ 6
  pub small : size < 10 ^ 6

-- the text begins with digits, and perhaps a point with at most `max` more digits, which denote this number of millionths, followed by
-- the remainder
pub record BeginsWithSize (max : ℕ) (text : List ℕ) (size : ℕ) (rest : List ℕ) : Type 0 where
  pub whole : List ℕ
  pub tail : List ℕ
  pub fraction : List ℕ
  pub joined : text ≡ whole ++ (tail ++ rest)
  pub some : 0 < length whole
  pub point : ((tail ≡ []) × (fraction ≡ [])) ⊎ (tail ≡ 46 ∷ fraction)
  pub whole_digits : all_digits whole ≡ true
  pub fraction_digits : all_digits fraction ≡ true
  pub few : length fraction ≤ max
  pub value : size * 10 ^ length fraction ≡ digits_value 10 (whole ++ fraction) * 10 ^ 6
