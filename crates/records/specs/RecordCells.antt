-- The cells of a plan's record.
use Rattle.std.specs.Prelude.{ℕ, List, [], ◌==◌, length, map, slice_index_or}
use Rattle.records.specs.Cells.{trimmed, without_end}

-- the cells without the empty ones at the end of the record, since spreadsheets pad records
abbrev pub without_empty_end : List (List ℕ) → List (List ℕ)
without_empty_end cells = without_end (λ c. length c == 0) cells

-- the cells of a record of a plan
abbrev pub cells_of : List (List ℕ) → List (List ℕ)
cells_of record_cells = without_empty_end (map trimmed record_cells)

-- the cell at a place
abbrev pub cell_at : List (List ℕ) → ℕ → List ℕ
cell_at cells i = slice_index_or cells i []
