-- The shortest text of a number, and texts of plain bytes.
use Rattle.std.specs.Prelude.{◌≡◌, ◌≢◌, ◌↔◌, ◌<ℤ◌, slice_index, ℕ, ◌-◌, ◌<◌, ◌≤◌, List, [], ◌∷◌, length, ℤ, pos}
use Rattle.std.specs.List.{All}
use Rattle.pit_units.specs.StandsFor.{IsDecimalText}

-- the shortest text of z: a minus only below zero and no plus, a digit before the point and no leading zero next to others, a fraction
-- only if it is not zero, and no zero at its end
pub record IsShortest (z : ℤ) (text : List ℕ) : Type 0 where
  pub sign : List ℕ
  pub whole : List ℕ
  pub tail : List ℕ
  pub fraction : List ℕ
  pub encoded : IsDecimalText text sign whole tail fraction
  pub no_plus : sign ≢ 43 ∷ []
  pub minus : (sign ≡ 45 ∷ []) ↔ (z <ℤ pos 0)
  pub digit_before : 0 < length whole
  pub no_leading_zero : slice_index whole 0 ≡ 48 → length whole ≡ 1
  pub no_end_zero : 0 < length fraction → slice_index fraction (length fraction - 1) ≢ 48
  pub no_bare_point : fraction ≡ [] → tail ≡ []

-- a minus, a point or a digit: of these codes, only 47 is none of them
abbrev pub IsPlainByte : ℕ → Type 0
IsPlainByte c = (45 ≤ c) × (c ≤ 57) × (c ≢ 47)

-- the number of bytes of the longest text: a minus, 18 digits, a point and six decimals
abbrev pub longest : ℕ
longest = 26

-- a text of plain bytes, no longer than the longest
pub record IsPlain (text : List ℕ) : Type 0 where
  pub some : 0 < length text
  pub short : length text ≤ longest
  pub bytes : All IsPlainByte text
