-- What the records of a zone file state, as relations.
use Rattle.std.specs.Prelude.{◌≡◌, ℕ, ◌+◌, ◌⊎◌, List, [], ◌∷◌, drop, slice_index_or, Option, Some, None}
use Rattle.plan_parts.specs.declared.block.Block.{Block}
use Rattle.plan_parts.specs.declared.grid.Grid.{Grid}
use Rattle.zone_csv.specs.Columns.{all_columns}
use Rattle.zone_csv.specs.NamedColumns.{IsFirstUnnamed, NamesColumns}
use Rattle.zone_csv.specs.RefusedRow.{IsRefusedAt}
use Rattle.zone_csv.specs.EncodedRow.{EncodesBlock}
use Rattle.zone_csv.specs.declared.columns.Columns.{Columns}
use Rattle.zone_csv.specs.declared.row_fault.RowFault.{RowFault}

-- these rows, from record `number` on, encode these blocks; after them there is no row, or a row that is rejected with this fault
abbrev pub RowsState : Grid → ℕ → Columns → ℕ → List (List (List ℕ)) → List Block → Option RowFault → Type 0
RowsState grid zone columns number [] [] None = Unit {0}
RowsState grid zone columns number [] [] (Some fault) = ⊥
RowsState grid zone columns number [] (block ∷ blocks) fault = ⊥
RowsState grid zone columns number (row ∷ rows) [] None = ⊥
RowsState grid zone columns number (row ∷ rows) [] (Some fault) = (fault.row ≡ number) × IsRefusedAt grid columns number row fault
RowsState grid zone columns number (row ∷ rows) (block ∷ blocks) fault =
    EncodesBlock grid zone columns number row block × RowsState grid zone columns (number + 1) rows blocks fault

-- the header of these records; without records, it has no cells
abbrev pub header_record : List (List (List ℕ)) → List (List ℕ)
header_record records = slice_index_or records 0 []

-- the header names columns, and the rows after it encode these blocks, up to the end or this fault
abbrev pub ZoneStates : Grid → ℕ → List (List (List ℕ)) → List Block → Option RowFault → Type 0
ZoneStates grid zone records blocks fault =
    (columns : Columns) × NamesColumns (header_record records) columns × RowsState grid zone columns 2 (drop 1 records) blocks fault

-- the header does not name a column, so there are no blocks
abbrev pub HeaderFails : List (List (List ℕ)) → List Block → RowFault → Type 0
HeaderFails records blocks fault = (blocks ≡ []) × (fault.row ≡ 1) × IsFirstUnnamed (header_record records) all_columns fault

-- a zone file has these blocks and then this fault: of its header, or of the record after those that encode the blocks
abbrev pub ZoneFails : Grid → ℕ → List (List (List ℕ)) → List Block → RowFault → Type 0
ZoneFails grid zone records blocks fault =
    HeaderFails records blocks fault ⊎ ZoneStates grid zone records blocks (Some fault)
