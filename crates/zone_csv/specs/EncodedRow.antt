-- What the cells of a row that states a block encode, each and all together; and the coordinates of blocks.
use Rattle.std.specs.Prelude.{◌≡◌, ℕ, ◌+◌, ◌*◌, ◌<◌, ◌≤◌, List, length, ℤ, pos, ◌+ℤ◌, ◌*ℤ◌, ◌≤ℤ◌}
use Rattle.pit_units.specs.EncodedNumbers.{EncodesSize}
use Rattle.pit_units.specs.StandsFor.{StandsFor}
use Rattle.plan_parts.specs.declared.block.Block.{Block}
use Rattle.plan_parts.specs.declared.grid.Axis.{Axis}
use Rattle.plan_parts.specs.declared.grid.Grid.{Grid}
use Rattle.plan_parts.specs.declared.ranges.TheConstants.{GRID_CELLS, MAX_GRADE, MAX_KG, MAX_ROWS}
use Rattle.zone_csv.specs.Cell.{largest, smallest}
use Rattle.zone_csv.specs.Row.{cell_in}
use Rattle.zone_csv.specs.declared.columns.Columns.{Columns}
use Rattle.zone_csv.specs.declared.row_fault.Column.{Column}
use Rattle.zone_csv.specs.declared.row_fault.Column.TheVariants.{X, Y, Z, Tonnes, Grade, Whole}

abbrev pub IsInGrid : Axis → ℤ → Type 0
IsInGrid axis coordinate = (smallest axis ≤ℤ coordinate) × (coordinate ≤ℤ largest axis)

-- the centroid coordinate of the blocks with an index
abbrev pub centroid : Axis → ℕ → ℤ
centroid axis index = pos 1000 *ℤ (axis.origin +ℤ pos (index * axis.size))

-- a cell encodes the centroid of the blocks with an index of the grid
abbrev pub EncodesCentroid : Axis → List ℕ → ℕ → Type 0
EncodesCentroid axis cell index = StandsFor 3 cell (centroid axis index) × (index < GRID_CELLS)

-- a cell encodes an allowed value of its column: a centroid, tonnes, or a grade; the row as a whole is no cell
abbrev pub EncodesColumn : Grid → Column → List ℕ → Type 0
EncodesColumn grid X cell = (index : ℕ) × EncodesCentroid grid.x cell index
EncodesColumn grid Y cell = (index : ℕ) × EncodesCentroid grid.y cell index
EncodesColumn grid Z cell = (index : ℕ) × EncodesCentroid grid.z cell index
EncodesColumn grid Tonnes cell = (millionths : ℕ) × EncodesSize 3 (MAX_KG * 1000) cell millionths
EncodesColumn grid Grade cell = (millionths : ℕ) × EncodesSize 6 MAX_GRADE cell millionths
EncodesColumn grid Whole cell = ⊥

-- the record's number is within the maximum, and it is as wide as the header; its cells encode the block's centroid, tonnes and
-- grade; and the block is of this zone
pub record EncodesBlock (grid : Grid) (zone : ℕ) (columns : Columns) (number : ℕ) (cells : List (List ℕ)) (block : Block) : Type 0 where
  pub few : number ≤ MAX_ROWS + 1
  pub wide : length cells ≡ columns.width
  pub x : StandsFor 3 (cell_in columns cells 0) (centroid grid.x block.x)
  pub y : StandsFor 3 (cell_in columns cells 1) (centroid grid.y block.y)
  pub z : StandsFor 3 (cell_in columns cells 2) (centroid grid.z block.z)
  pub tonnes : StandsFor 3 (cell_in columns cells 3) (pos (block.kg * 1000))
  pub grade : StandsFor 6 (cell_in columns cells 4) (pos block.grade)
  pub own : block.zone ≡ zone
