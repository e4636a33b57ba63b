-- The results of a row and its cells, before the row's number is in the fault.
use Rattle.std.specs.Prelude.{ℕ, Result, Ok, Err}
use Rattle.zone_csv.specs.Cell.{a_fault}
use Rattle.zone_csv.specs.declared.cell.ColumnFault.{ColumnFault}
use Rattle.zone_csv.specs.declared.row_fault.RowFault.{RowFault}

-- the same result, with the row's number in the fault
abbrev pub in_row : {A : Type 0} → ℕ → Result A ColumnFault → Result A RowFault
in_row row (Ok x) = Ok x
in_row row (Err fault) = Err (a_fault row fault.column fault.kind)
