-- The columns that a header names.
use Rattle.std.specs.Prelude.{◌≡◌, ◌⊎◌, ℕ, ◌<◌, true, List, [], ◌∷◌, length}
use Rattle.std.specs.List.{AllZip}
use Rattle.records.specs.Cells.{is_word}
use Rattle.zone_csv.specs.Cell.{trimmed_at}
use Rattle.zone_csv.specs.Columns.{all_columns, column_name}
use Rattle.zone_csv.specs.declared.columns.Columns.{Columns}
use Rattle.zone_csv.specs.declared.row_fault.Column.{Column}
use Rattle.zone_csv.specs.declared.row_fault.RowFault.{RowFault}
use Rattle.zone_csv.specs.declared.row_fault.RowFaultKind.{RowFaultKind}
use Rattle.zone_csv.specs.declared.row_fault.RowFaultKind.TheVariants.{MissingColumn, TwiceColumn}

-- the cell at this place is the column's name, in upper or lower case, and no other cell is
abbrev pub NamesColumn : List (List ℕ) → List ℕ → ℕ → Type 0
NamesColumn header name place =
    (is_word (trimmed_at header place) name ≡ true) × ((other : ℕ) → is_word (trimmed_at header other) name ≡ true → other ≡ place)

-- the header has `width` cells, and names each column at its place
pub record NamesColumns (header : List (List ℕ)) (columns : Columns) : Type 0 where
  pub width : columns.width ≡ length header
  pub places : AllZip (λ column place. NamesColumn header (column_name column) place) all_columns columns.places

-- why a header does not name a column: no cell is its name, or two cells are
abbrev pub LacksColumn : List (List ℕ) → List ℕ → RowFaultKind → Type 0
LacksColumn header name MissingColumn = (place : ℕ) → ¬ (is_word (trimmed_at header place) name ≡ true)
LacksColumn header name TwiceColumn =
    (place : ℕ) × (other : ℕ) × (is_word (trimmed_at header place) name ≡ true) × (is_word (trimmed_at header other) name ≡ true)
    × (place < other)
LacksColumn header name kind = ⊥

-- the fault of the first of these columns that the header does not name
abbrev pub IsFirstUnnamed : List (List ℕ) → List Column → RowFault → Type 0
IsFirstUnnamed header [] fault = ⊥
IsFirstUnnamed header (first ∷ others) fault =
    ((fault.column ≡ first) × LacksColumn header (column_name first) fault.kind)
    ⊎ (((place : ℕ) × NamesColumn header (column_name first) place) × IsFirstUnnamed header others fault)
