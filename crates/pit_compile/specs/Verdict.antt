-- The verdict on the zone files of a plan.
use Rattle.std.specs.Prelude.{◌≡◌, ℕ, ◌<◌, List, length, map, Some, None, false, slice_get, slice_index_or}
use Rattle.std.specs.Option.{option_map}
use Rattle.precedence.specs.Identifier.{is_same_cell, IsFirstAgain}
use Rattle.plan_parts.specs.Plan.{PlanParts}
use Rattle.plan_parts.specs.declared.block.Block.{Block}
use Rattle.pit_compile.specs.Rows.{model_blocks, model_rows, fault_in}
use Rattle.refusals.specs.declared.refusal.Refusal.{Refusal}
use Rattle.refusals.specs.declared.refusal.Refusal.TheVariants.{TooLong, Row, Same}
use Rattle.refusals.specs.declared.refusal.RowAt.{RowAt}

-- no two blocks of the list are in the same cell of the grid
abbrev pub AreApart : List Block → Type 0
AreApart blocks = (i j : ℕ) (d : Block) → i < j → j < length blocks
    → is_same_cell (slice_index_or blocks i d) (slice_index_or blocks j d) ≡ false

-- accepted: no file has a fault, and no cell of the grid has two blocks
pub record IsAccepted (plan : PlanParts) (texts : List (List ℕ)) : Type 0 where
  pub no_fault : fault_in texts plan.grid 0 ≡ None
  pub apart : AreApart (model_blocks plan texts)

-- `again` is the first row whose block is in the cell of an earlier row, and `first` is that row
pub record IsFirstRepeat (rows : List (RowAt × Block)) (first again : RowAt) : Type 0 where
  pub earlier : ℕ
  pub later : ℕ
  pub repeats : IsFirstAgain (map (λ row. row.1) rows) earlier later
  pub first_row : option_map (λ row. row.0) (slice_get rows earlier) ≡ Some first
  pub again_row : option_map (λ row. row.0) (slice_get rows later) ≡ Some again

-- refused: with the fault of the first file that has one or, if no file has one, with the first repeated cell
abbrev pub IsRefusedBy : PlanParts → List (List ℕ) → Refusal → Type 0
IsRefusedBy plan texts (TooLong file) = fault_in texts plan.grid 0 ≡ Some (TooLong file)
IsRefusedBy plan texts (Row file fault) = fault_in texts plan.grid 0 ≡ Some (Row file fault)
IsRefusedBy plan texts (Same first again) = (fault_in texts plan.grid 0 ≡ None) × IsFirstRepeat (model_rows plan texts) first again
IsRefusedBy plan texts other = ⊥
