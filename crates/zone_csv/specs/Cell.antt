-- The cells of a row, and the coordinates and indices of a grid.
use Rattle.std.specs.Prelude.{ℕ, ◌*◌, ◌/◌, ◌%◌, ◌==◌, Bool, List, [], ℤ, pos, negsuc, ◌+ℤ◌, ◌-ℤ◌, ◌*ℤ◌, unsigned_abs, slice_index_or}
use Rattle.records.specs.Cells.{trimmed}
use Rattle.plan_parts.specs.declared.grid.Axis.{Axis}
use Rattle.zone_csv.specs.declared.row_fault.Column.{Column}
use Rattle.zone_csv.specs.declared.row_fault.RowFault.{RowFault}
use Rattle.zone_csv.specs.declared.row_fault.RowFaultKind.{RowFaultKind}
use Rattle.plan_parts.specs.declared.ranges.TheConstants.{GRID_CELLS}

-- the cell of a record at a place, without the blanks at both ends
abbrev pub trimmed_at : List (List ℕ) → ℕ → List ℕ
trimmed_at cells place = trimmed (slice_index_or cells place [])

abbrev pub a_fault : ℕ → Column → RowFaultKind → RowFault
a_fault row column kind = record { row = row; column = column; kind = kind }

-- the smallest and the largest coordinate of the grid along an axis, in millionths of a metre: from the origin to below 10,000
-- sizes above it. The axis itself is in thousandths of a metre
abbrev pub smallest : Axis → ℤ
smallest axis = pos 1000 *ℤ axis.origin

abbrev pub largest : Axis → ℤ
largest axis = (pos 1000 *ℤ (axis.origin +ℤ pos (GRID_CELLS * axis.size))) +ℤ negsuc 0

-- the index of the blocks at a coordinate: the number of block sizes from the origin to it, rounded down
abbrev pub index_at : Axis → ℤ → ℕ
index_at axis coordinate = unsigned_abs (coordinate -ℤ smallest axis) / (1000 * axis.size)

-- the distance of a coordinate from the origin is a multiple of the block size
abbrev pub is_on_step : Axis → ℤ → Bool
is_on_step axis coordinate = unsigned_abs (coordinate -ℤ smallest axis) % (1000 * axis.size) == 0
