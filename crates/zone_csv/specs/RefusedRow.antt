-- The place and the kind of fault in a row that states no block.
use Rattle.std.specs.Prelude.{◌≡◌, ◌≢◌, ℕ, ◌+◌, ◌*◌, ◌<◌, ◌≤◌, ◌⊎◌, List, [], ◌∷◌, length, ℤ, pos}
use Rattle.pit_units.specs.EncodedNumbers.{EncodesNumber, IsDecimal, IsFine}
use Rattle.plan_parts.specs.declared.grid.Grid.{Grid}
use Rattle.plan_parts.specs.declared.ranges.TheConstants.{MAX_GRADE, MAX_KG, MAX_ROWS}
use Rattle.zone_csv.specs.Cell.{largest, smallest}
use Rattle.zone_csv.specs.Columns.{all_columns}
use Rattle.zone_csv.specs.Row.{cell_in}
use Rattle.zone_csv.specs.EncodedRow.{EncodesColumn}
use Rattle.zone_csv.specs.declared.columns.Columns.{Columns}
use Rattle.zone_csv.specs.declared.row_fault.Column.{Column}
use Rattle.zone_csv.specs.declared.row_fault.Column.TheVariants.{X, Y, Z, Tonnes, Grade, Whole}
use Rattle.zone_csv.specs.declared.row_fault.RowFault.{RowFault}
use Rattle.zone_csv.specs.declared.row_fault.RowFaultKind.{RowFaultKind}
use Rattle.zone_csv.specs.declared.row_fault.RowFaultKind.TheVariants.{Number, OffGrid, Range, TooFine, TooManyRows, Width}

-- why a cell encodes no allowed value: it is no decimal; or it is a decimal, but too fine; or fine enough, but its number is out of
-- range; or in range, but not an allowed value
abbrev pub CellFails : ℕ → ℤ → ℤ → List ℕ → Type 0 → RowFaultKind → Type 0
CellFails decimals low high cell Encodes Number = ¬ (IsDecimal cell)
CellFails decimals low high cell Encodes TooFine = IsDecimal cell × ¬ (IsFine decimals cell)
CellFails decimals low high cell Encodes Range = IsFine decimals cell × ((m : ℤ) → ¬ (EncodesNumber decimals low high cell m))
CellFails decimals low high cell Encodes OffGrid = ((m : ℤ) × EncodesNumber decimals low high cell m) × ¬ Encodes
CellFails decimals low high cell Encodes kind = ⊥

-- a cell with a fault, by its column
abbrev pub ColumnFails : Grid → Column → List ℕ → RowFaultKind → Type 0
ColumnFails grid X cell = CellFails 3 (smallest grid.x) (largest grid.x) cell (EncodesColumn grid X cell)
ColumnFails grid Y cell = CellFails 3 (smallest grid.y) (largest grid.y) cell (EncodesColumn grid Y cell)
ColumnFails grid Z cell = CellFails 3 (smallest grid.z) (largest grid.z) cell (EncodesColumn grid Z cell)
ColumnFails grid Tonnes cell = CellFails 3 (pos 0) (pos (MAX_KG * 1000)) cell (EncodesColumn grid Tonnes cell)
ColumnFails grid Grade cell = CellFails 6 (pos 0) (pos MAX_GRADE) cell (EncodesColumn grid Grade cell)
ColumnFails grid Whole cell = λ kind. ⊥

-- the fault of the first of these columns whose cell encodes no allowed value; the first column has the number k among the five
abbrev pub IsFirstInvalidCell : Grid → Columns → List (List ℕ) → ℕ → List Column → RowFault → Type 0
IsFirstInvalidCell grid columns cells k [] fault = ⊥
IsFirstInvalidCell grid columns cells k (first ∷ others) fault =
    ((fault.column ≡ first) × ColumnFails grid first (cell_in columns cells k) fault.kind)
    ⊎ (EncodesColumn grid first (cell_in columns cells k) × IsFirstInvalidCell grid columns cells (k + 1) others fault)

-- the record with this number is above the maximum; or its width is not the header's; or both are right, but a cell is invalid
abbrev pub IsRefusedAt : Grid → Columns → ℕ → List (List ℕ) → RowFault → Type 0
IsRefusedAt grid columns number cells fault =
    ((MAX_ROWS + 1 < number) × (fault.column ≡ Whole) × (fault.kind ≡ TooManyRows))
    ⊎ (((number ≤ MAX_ROWS + 1) × (length cells ≢ columns.width) × (fault.column ≡ Whole) × (fault.kind ≡ Width))
    ⊎ ((number ≤ MAX_ROWS + 1) × (length cells ≡ columns.width) × IsFirstInvalidCell grid columns cells 0 all_columns fault))

-- blocks have a positive size along each axis
abbrev pub HasSizes : Grid → Type 0
HasSizes grid = (0 < grid.x.size) × (0 < grid.y.size) × (0 < grid.z.size)
