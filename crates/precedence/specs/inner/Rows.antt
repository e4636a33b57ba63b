-- The rows of a cone: the codes of its blocks, as seen from a block.
use Rattle.std.specs.Prelude.{◌≡◌, ℕ, ◌+◌, ◌-◌, ◌*◌, ◌<◌, ◌≤◌, ◌&&◌, ◌||◌, Bool, false, List, [], ◌∷◌, map, nat_lt, nat_le}
use Rattle.std.specs.Int.{abs_diff}
use Rattle.std.specs.List.{prefix_len}
use Rattle.plan_parts.specs.declared.block.Block.{Block}
use Rattle.plan_parts.specs.declared.cone.Cone.{Cone}
use Rattle.plan_parts.specs.declared.grid.Grid.{Grid}
use Rattle.plan_parts.specs.declared.ranges.TheConstants.{GRID_CELLS}
use Rattle.precedence.specs.Codes.{place_code}
use Rattle.precedence.specs.Cone.{is_above}
use Rattle.precedence.specs.declared.places.code.TheConstants.{BENCH, ROW}
use Rattle.precedence.specs.declared.cones.cone_rows.Row.{Row}
use Rattle.precedence.specs.declared.cones.cone_rows.Extent.{Extent}

-- a code is in the row, as seen from the code `from`
abbrev pub is_in_row : ℕ → Row → ℕ → Bool
is_in_row from row c = nat_le (from + row.first) c && nat_lt c (from + row.past)

abbrev pub is_in_rows : ℕ → List Row → ℕ → Bool
is_in_rows from [] c = false
is_in_rows from (row ∷ rows) c = is_in_row from row c || is_in_rows from rows c

-- every row has a code, starts at `low` or later and not before the end of the row before, and ends at `high` or before
abbrev pub LieApart : ℕ → List Row → ℕ → Type 0
LieApart low [] high = low ≤ high
LieApart low (row ∷ rows) high = (low ≤ row.first) × (row.first < row.past) × LieApart row.past rows high

-- two blocks no further apart than the model's rows and benches
pub record IsWithin (extent : Extent) (low high : Block) : Type 0 where
  pub rows : abs_diff low.y high.y ≤ extent.rows
  pub benches : high.z - low.z ≤ extent.benches

-- the rows contain exactly the codes of the blocks above, up to the distance `up`
pub record AreExactUpTo (grid : Grid) (cone : Cone) (extent : Extent) (up : ℕ) (rows : List Row) : Type 0 where
  pub apart : LieApart 0 rows up
  pub exact : (low high : Block) → IsWithin extent low high → is_in_rows (place_code low) rows (place_code high) ≡ (nat_lt (place_code high) (place_code low + up) && is_above grid cone low high)

-- the rows contain exactly the codes of the blocks above
pub record IsTable (grid : Grid) (cone : Cone) (extent : Extent) (rows : List Row) : Type 0 where
  pub high : ℕ
  pub apart : LieApart 0 rows high
  pub exact : (low high : Block) → IsWithin extent low high → is_in_rows (place_code low) rows (place_code high) ≡ is_above grid cone low high

-- the distance from a block to the codes of the row i of the bench dz above, where row 0 is `rows` rows south of the block
abbrev pub center : ℕ → ℕ → ℕ → ℕ
center rows dz i = dz * BENCH + i * ROW - rows * ROW

-- the smallest start of that row's codes
abbrev pub edge : ℕ → ℕ → ℕ → ℕ
edge rows dz i = dz * BENCH + i * ROW - (rows * ROW + 2 * GRID_CELLS)

-- the number of codes, from the first on, that are below t
abbrev pub start_of : ℕ → List ℕ → ℕ
start_of t cs = prefix_len (λ c. nat_lt c t) cs

-- the end of each row
abbrev pub pasts : List Row → List ℕ
pasts rows = map (λ row. row.past) rows

-- the rows are in order
abbrev pub AreInOrder : List Row → Type 0
AreInOrder rows = (high : ℕ) × LieApart 0 rows high
