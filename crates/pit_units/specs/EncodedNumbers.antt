-- The conditions for a text that encodes a number in a range, and the number.
use Rattle.std.specs.Prelude.{ℕ, ◌*◌, ◌^◌, ◌<◌, ◌≤◌, List, drop, ℤ, pos, ◌≤ℤ◌, IsTrue}
use Rattle.pit_units.specs.Decimal.{all_zeros}
use Rattle.pit_units.specs.StandsFor.{IsDecimalText, StandsFor}

-- the text is a decimal
abbrev pub IsDecimal : List ℕ → Type 0
IsDecimal text = (sign whole tail fraction : List ℕ) × IsDecimalText text sign whole tail fraction

-- its digits after the first `decimals` decimals are zeros
abbrev pub IsFine : ℕ → List ℕ → Type 0
IsFine decimals text =
    (sign whole tail fraction : List ℕ)
    × IsDecimalText text sign whole tail fraction × IsTrue (all_zeros (drop decimals fraction))

-- m millionths, with at most `decimals` decimals, from the lowest to the highest
abbrev pub EncodesNumber : ℕ → ℤ → ℤ → List ℕ → ℤ → Type 0
EncodesNumber decimals low high text m = StandsFor decimals text m × (low ≤ℤ m) × (m ≤ℤ high)

-- n millionths, from zero to `most`
abbrev pub EncodesSize : ℕ → ℕ → List ℕ → ℕ → Type 0
EncodesSize decimals most text n = StandsFor decimals text (pos n) × (n ≤ most)

-- an integer from the lowest to the highest, and an integer below a limit
abbrev pub EncodesInteger : ℕ → ℕ → List ℕ → ℕ → Type 0
EncodesInteger low high text n = StandsFor 0 text (pos (n * 10 ^ 6)) × (low ≤ n) × (n ≤ high)

abbrev pub EncodesBelow : ℕ → List ℕ → ℕ → Type 0
EncodesBelow limit text n = StandsFor 0 text (pos (n * 10 ^ 6)) × (n < limit)
