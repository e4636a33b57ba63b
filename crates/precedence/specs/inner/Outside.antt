-- Blocks outside the rows of a cone along x.
use Rattle.std.specs.Prelude.{◌≡◌, ℕ, ◌+◌, ◌*◌, ◌/◌, ◌%◌, ◌<◌, ◌≤◌, List, All, true, false, length, slice_index, ◌⊎◌}
use Rattle.plan_parts.specs.declared.ranges.TheConstants.{GRID_CELLS}
use Rattle.precedence.specs.inner.Rows.{is_in_row}
use Rattle.precedence.specs.inner.lanes.Bits.{has_bit}
use Rattle.precedence.specs.declared.places.code.TheConstants.{ROW}
use Rattle.precedence.specs.declared.places.column.TheConstants.{COLUMN}
use Rattle.precedence.specs.declared.places.columns.TheConstants.{CHUNK}
use Rattle.precedence.specs.declared.cones.cone_rows.Row.{Row}
use Rattle.precedence.specs.declared.cones.cone_rows.Widths.{Widths}

-- the index along x of the block with the code
abbrev pub x_of : ℕ → ℕ
x_of code = code % ROW

-- the column of the code's index along x has a bit
pub record IsInColumns (columns code : ℕ) : Type 0 where
  pub small : x_of code < GRID_CELLS
  pub bit : has_bit columns (x_of code / COLUMN) ≡ true

-- the columns of each chunk have the blocks of the chunk
abbrev pub AreColumns : List ℕ → List ℕ → Type 0
AreColumns columns codes = (k m : ℕ) → k < length columns → k * CHUNK ≤ m → m < k * CHUNK + CHUNK → m < length codes
    → IsInColumns (slice_index columns k) (slice_index codes m)

-- the distance to the cell straight above or below, in the row of blocks nearest to a cone row's end
abbrev pub middle : ℕ → ℕ
middle past = (past + ROW / 2) / ROW * ROW

-- a cone row reaches no further to the west and to the east
pub record IsNoWider (west east : ℕ) (row : Row) : Type 0 where
  pub first : middle row.past ≤ row.first + west
  pub past : row.past ≤ middle row.past + east

abbrev pub AreNoWider : Widths → List Row → Type 0
AreNoWider widths rows = All (IsNoWider widths.west widths.east) rows

-- the block with the code is west of `west`, or from `east` on
pub record IsOutside (west east code : ℕ) : Type 0 where
  pub small : x_of code < GRID_CELLS
  pub out : (x_of code < west) ⊎ (east ≤ x_of code)

-- no code outside is in a row that is no wider, as seen from the code `from`
abbrev pub SidesExclude : (widths : Widths) (from west east : ℕ) → Type 0
SidesExclude widths from west east = (row : Row) (code : ℕ) → IsNoWider widths.west widths.east row → IsOutside west east code
    → is_in_row from row code ≡ false
