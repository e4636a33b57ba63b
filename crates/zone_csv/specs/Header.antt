-- The header of a zone file: the places of its columns.
use Rattle.std.specs.Prelude.{ℕ, ◌+◌, List, [], ◌∷◌, length, Result, Ok, Err, if◌then◌else◌}
use Rattle.pit_units.specs.Steps.{◌>>=◌, each_of}
use Rattle.records.specs.Cells.{trimmed, is_word}
use Rattle.zone_csv.specs.Cell.{a_fault}
use Rattle.zone_csv.specs.Columns.{all_columns, column_name}
use Rattle.zone_csv.specs.declared.columns.Columns.{Columns}
use Rattle.zone_csv.specs.declared.row_fault.Column.{Column}
use Rattle.zone_csv.specs.declared.row_fault.RowFault.{RowFault}
use Rattle.zone_csv.specs.declared.row_fault.RowFaultKind.TheVariants.{MissingColumn, TwiceColumn}

-- the places of the cells that are this name; the first cell is at place n
abbrev pub places_of : List ℕ → List (List ℕ) → ℕ → List ℕ
places_of name [] n = []
places_of name (cell ∷ cells) n =
    if is_word (trimmed cell) name then n ∷ places_of name cells (n + 1) else places_of name cells (n + 1)

abbrev pub places_in : List (List ℕ) → Column → List ℕ
places_in header column = places_of (column_name column) header 0

-- a column is at one place, and at no other
abbrev pub one_place : Column → List ℕ → Result ℕ RowFault
one_place column [] = Err (a_fault 1 column MissingColumn)
one_place column (place ∷ []) = Ok place
one_place column (place ∷ second ∷ more) = Err (a_fault 1 column TwiceColumn)

-- the places of these columns, or the first fault
abbrev pub each_place : List (List ℕ) → List Column → Result (List ℕ) RowFault
each_place header = each_of (λ column. one_place column (places_in header column))

-- the columns that a header names, or the first column that is missing or appears twice
unfoldable pub columns_of : List (List ℕ) → Result Columns RowFault
columns_of header =
    each_place header all_columns >>= λ places. Ok (record { width = length header; places = places })
