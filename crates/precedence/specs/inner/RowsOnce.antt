-- The proof that rows are apart is unique. Tables and views contain it.
use Rattle.std.specs.Prelude.{ℕ, List, [], ◌∷◌}
use Rattle.std.specs.Coded.{le_prop}
use Rattle.precedence.specs.inner.Rows.{LieApart}
use Rattle.precedence.specs.declared.cones.cone_rows.Row.{Row}

pub LieApart-prop : (low : ℕ) (rows : List Row) (high : ℕ) → IsProp (LieApart low rows high)
LieApart-prop low [] high x y = le_prop x y
LieApart-prop low (row ∷ rows) high x y =
    λ i. (le_prop x.0 y.0 i, le_prop x.1 y.1 i, LieApart-prop row.past rows high x.2 y.2 i)
