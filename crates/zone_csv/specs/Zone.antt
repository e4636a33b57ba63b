-- Reading a zone file: the blocks before its first fault, and the fault.
use Rattle.std.specs.Prelude.{ℕ, ◌+◌, List, [], ◌∷◌, Option, Some, None, Result, Ok, Err}
use Rattle.std.specs.Result.{ok_prefix}
use Rattle.records.specs.Records.{records_of}
use Rattle.plan_parts.specs.declared.block.Block.{Block}
use Rattle.plan_parts.specs.declared.grid.Grid.{Grid}
use Rattle.zone_csv.specs.Cell.{a_fault}
use Rattle.zone_csv.specs.Header.{columns_of}
use Rattle.zone_csv.specs.Row.{row_of}
use Rattle.zone_csv.specs.declared.columns.Columns.{Columns}
use Rattle.zone_csv.specs.declared.row_fault.Column.TheVariants as column
use Rattle.zone_csv.specs.declared.row_fault.RowFault.{RowFault}
use Rattle.zone_csv.specs.declared.row_fault.RowFaultKind.TheVariants.{MissingColumn}

-- what each of these rows states; the first is record `number`
abbrev pub results_of_rows : Grid → ℕ → Columns → List (List (List ℕ)) → ℕ → List (Result Block RowFault)
results_of_rows grid zone columns [] number = []
results_of_rows grid zone columns (row ∷ rows) number =
    row_of grid zone columns number row ∷ results_of_rows grid zone columns rows (number + 1)

-- what the rows after a header with these columns state, or the header's fault
abbrev pub below_header : Grid → ℕ → Result Columns RowFault → List (List (List ℕ)) → List (Result Block RowFault)
below_header grid zone (Err fault) rows = Err fault ∷ []
below_header grid zone (Ok columns) rows = results_of_rows grid zone columns rows 2

-- what the records of a zone file state; the first is the header
abbrev pub results_of_records : Grid → ℕ → List (List (List ℕ)) → List (Result Block RowFault)
results_of_records grid zone [] = Err (a_fault 1 column.X MissingColumn) ∷ []
results_of_records grid zone (header ∷ rows) = below_header grid zone (columns_of header) rows

-- the first fault
abbrev pub first_fault : List (Result Block RowFault) → Option RowFault
first_fault [] = None
first_fault (Ok block ∷ results) = first_fault results
first_fault (Err fault ∷ results) = Some fault

-- the blocks of a zone file: the blocks of the rows before the first fault
unfoldable pub blocks_of : Grid → ℕ → List ℕ → List Block
blocks_of grid zone text = ok_prefix (results_of_records grid zone (records_of text))

-- the first fault of a zone file
unfoldable pub fault_of : Grid → ℕ → List ℕ → Option RowFault
fault_of grid zone text = first_fault (results_of_records grid zone (records_of text))
