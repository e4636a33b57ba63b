-- What a row of a zone file states, cell by cell: a block, or its first fault.
use Rattle.std.specs.Prelude.{ℕ, ◌+◌, ◌*◌, ◌/◌, ◌==◌, nat_le, not, List, length, slice_index_or, ℤ, pos, unsigned_abs, Result, Ok, Err, if◌then◌else◌}
use Rattle.pit_units.specs.Steps.{◌>>=◌}
use Rattle.pit_units.specs.Decimal.{decimal_within}
use Rattle.pit_units.specs.declared.fault.DecFault.{DecFault}
use Rattle.pit_units.specs.declared.fault.DecFault.TheVariants as dec
use Rattle.plan_parts.specs.Block.{block_with}
use Rattle.plan_parts.specs.declared.block.Block.{Block}
use Rattle.plan_parts.specs.declared.grid.Axis.{Axis}
use Rattle.plan_parts.specs.declared.grid.Grid.{Grid}
use Rattle.plan_parts.specs.declared.ranges.TheConstants.{MAX_GRADE, MAX_KG, MAX_ROWS}
use Rattle.zone_csv.specs.Cell.{a_fault, index_at, is_on_step, largest, smallest, trimmed_at}
use Rattle.zone_csv.specs.declared.columns.Columns.{Columns}
use Rattle.zone_csv.specs.declared.row_fault.Column.{Column}
use Rattle.zone_csv.specs.declared.row_fault.Column.TheVariants.{X, Y, Z, Tonnes, Grade, Whole}
use Rattle.zone_csv.specs.declared.row_fault.RowFault.{RowFault}
use Rattle.zone_csv.specs.declared.row_fault.RowFaultKind.TheVariants.{Number, TooFine, Range, OffGrid, Width, TooManyRows}

-- the number that a cell states, or the fault of its row and column
abbrev pub number_in_cell : ℕ → Column → Result ℤ DecFault → Result ℤ RowFault
number_in_cell row column (Ok m) = Ok m
number_in_cell row column (Err dec.Number) = Err (a_fault row column Number)
number_in_cell row column (Err dec.TooFine) = Err (a_fault row column TooFine)
number_in_cell row column (Err dec.Range) = Err (a_fault row column Range)

-- the index of a coordinate: metres with up to three decimals, in the grid, a multiple of the block size above the origin
abbrev pub index_in_cell : ℕ → Column → Axis → List ℕ → Result ℕ RowFault
index_in_cell row column axis cell =
    number_in_cell row column (decimal_within 3 (smallest axis) (largest axis) cell) >>= λ m.
    if is_on_step axis m then Ok (index_at axis m) else Err (a_fault row column OffGrid)

-- millionths from 0 to `most`, with at most `decimals` decimals
abbrev pub size_in_cell : ℕ → Column → ℕ → ℕ → List ℕ → Result ℕ RowFault
size_in_cell row column decimals most cell =
    number_in_cell row column (decimal_within decimals (pos 0) (pos most) cell) >>= λ m. Ok (unsigned_abs m)

-- the cell of a column, by the column's number among the five
abbrev pub cell_in : Columns → List (List ℕ) → ℕ → List ℕ
cell_in columns cells k = trimmed_at cells (slice_index_or columns.places k 0)

-- the record with this number, under these columns: its number is within the maximum; it is as wide as the header, with empty cells
-- at its end counted; after the coordinates come tonnes with up to three decimals and grams per tonne with up to six. A kilogram is
-- a thousandth of a tonne
unfoldable pub row_of : Grid → ℕ → Columns → ℕ → List (List ℕ) → Result Block RowFault
row_of grid zone columns number cells =
    if not (nat_le number (MAX_ROWS + 1)) then Err (a_fault number Whole TooManyRows)
    else (if not (length cells == columns.width) then Err (a_fault number Whole Width)
    else (
    index_in_cell number X grid.x (cell_in columns cells 0) >>= λ x.
    index_in_cell number Y grid.y (cell_in columns cells 1) >>= λ y.
    index_in_cell number Z grid.z (cell_in columns cells 2) >>= λ z.
    size_in_cell number Tonnes 3 (MAX_KG * 1000) (cell_in columns cells 3) >>= λ tonnes.
    size_in_cell number Grade 6 MAX_GRADE (cell_in columns cells 4) >>= λ grade.
    Ok (block_with x y z (tonnes / 1000) grade zone)))
