-- The position of a row among several lists of packed items.
use Rattle.std.specs.Prelude.{ℕ}

-- the number of the list, and the position in it, each from 0
pub record ItemRefView : Type 0 where
  pub list : ℕ
  pub position : ℕ
