-- The text of a zone file's fault.
use Rattle.std.specs.Prelude.{ℕ, List, ◌++◌, codes, decimal}
use Rattle.zone_csv.specs.Columns.{column_name}
use Rattle.zone_csv.specs.declared.row_fault.RowFault.{RowFault}
use Rattle.zone_csv.specs.declared.row_fault.RowFaultKind.{RowFaultKind}
use Rattle.zone_csv.specs.declared.row_fault.RowFaultKind.TheVariants as kind

abbrev pub row_kind_name : RowFaultKind → List ℕ
row_kind_name kind.MissingColumn = codes "MissingColumn"
row_kind_name kind.TwiceColumn = codes "TwiceColumn"
row_kind_name kind.Width = codes "Width"
row_kind_name kind.Number = codes "Number"
row_kind_name kind.TooFine = codes "TooFine"
row_kind_name kind.Range = codes "Range"
row_kind_name kind.OffGrid = codes "OffGrid"
row_kind_name kind.TooManyRows = codes "TooManyRows"

-- `row N column C: K`
abbrev pub row_fault_text : RowFault → List ℕ
row_fault_text fault =
    codes "row " ++ (decimal fault.row ++ (codes " column " ++ (column_name fault.column ++ (codes ": " ++ row_kind_name fault.kind))))
