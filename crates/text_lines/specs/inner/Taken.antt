-- The first field of a line, read as a number.
use Rattle.std.specs.Prelude.{◌≡◌, ℕ, List, ◌∷◌, ℤ, Ok}
use Rattle.pit_units.specs.Decimal.{decimal_of}
use Rattle.text_lines.specs.TextLines.{fields_of}

-- the first field of a line specifies m millionths, and the other fields are in its remainder
pub record TakesDecimal (decimals : ℕ) (line : List ℕ) (m : ℤ) (rest : List ℕ) : Type 0 where
  pub field : List ℕ
  pub cut : fields_of line ≡ field ∷ fields_of rest
  pub stated : decimal_of decimals field ≡ Ok m
