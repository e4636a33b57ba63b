-- The rows of the zone files with their worths, as the valuers return them, and the first row that repeats another.
use Rattle.std.specs.Prelude.{◌≡◌, ℕ, ◌+◌, ◌<◌, List, [], ◌∷◌, ◌++◌, length, slice_index_or}
use Rattle.plan_parts.specs.PlanFormulas.{formulas_of_plan}
use Rattle.plan_parts.specs.Plan.{PlanParts}
use Rattle.plan_parts.specs.declared.block.Block.{Block}
use Rattle.plan_parts.specs.declared.formulas.formula.Formula.{Formula}
use Rattle.plan_parts.specs.declared.grid.Grid.{Grid}
use Rattle.precedence.specs.Identifier.{blocks_of_rows, IsFirstAgain}
use Rattle.rows.specs.Valued.{row_by}
use Rattle.rows.specs.declared.item.Valued.{Valued}
use Rattle.zone_csv.specs.Zone.{blocks_of}
use Rattle.refusals.specs.declared.refusal.RowAt.{RowAt}

-- the rows of a file with these blocks, each with its worth by each formula; the first row has place n
abbrev pub valued_from : List Block → List Formula → ℕ → ℕ → List Valued
valued_from [] formulas file n = []
valued_from (b ∷ blocks) formulas file n = row_by formulas file n b ∷ valued_from blocks formulas file (n + 1)

-- the rows of these zone files in order; the first file has number n
abbrev pub valued_in : List (List ℕ) → Grid → List Formula → ℕ → List Valued
valued_in [] grid formulas n = []
valued_in (text ∷ texts) grid formulas n = valued_from (blocks_of grid n text) formulas n 0 ++ valued_in texts grid formulas (n + 1)

-- all rows of a model
abbrev pub valued_rows : PlanParts → List (List ℕ) → List Valued
valued_rows plan texts = valued_in texts plan.grid (formulas_of_plan plan) 0

-- the position of a row: its file, and its record number, which counts the header and begins with 1
abbrev pub at_of : Valued → RowAt
at_of row = record { file = row.file; row = row.place + 2 }

-- this is the row at a position of the list
abbrev pub IsValuedAt : List Valued → ℕ → RowAt → Type 0
IsValuedAt rows i at = (d : Valued) → i < length rows → at ≡ at_of (slice_index_or rows i d)

-- `again` is the first row in the cell of an earlier row, and `first` is that row
pub record RepeatsFirst (rows : List Valued) (first again : RowAt) : Type 0 where
  pub earlier : ℕ
  pub later : ℕ
  pub repeats : IsFirstAgain (blocks_of_rows rows) earlier later
  pub first_row : IsValuedAt rows earlier first
  pub again_row : IsValuedAt rows later again
