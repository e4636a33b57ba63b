-- Alternative definitions of a UPIT file's lines, which a theorem compares with its text.
use Rattle.std.specs.Prelude.{ℕ, ◌+◌, List, [], ◌∷◌, ◌++◌, ℤ, ◌≤ℤ◌, All, decimal}
use Rattle.std.specs.List.{Contains}
use Rattle.pit_units.specs.Decimal.{shortest}

-- one of a block's values, which none of them exceeds
pub record IsBest (values : List ℤ) (best : ℤ) : Type 0 where
  pub one : Contains values best
  pub most : All (λ v. v ≤ℤ best) values

-- a line for each of these values, of which the first is the value of block n: the block's number, a space and the value
abbrev pub best_lines : ℕ → List ℤ → List ℕ
best_lines n [] = []
best_lines n (best ∷ others) = ((decimal n ++ 32 ∷ shortest best) ++ 10 ∷ []) ++ best_lines (n + 1) others
