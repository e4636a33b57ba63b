-- Rows without their worths.
use Rattle.std.proofs.Common.{◌≡◌, ℕ, zero, suc, ◌+◌, ◌<◌, ◌++◌, List, [], ◌∷◌, Some, refl, sym, ◌∙◌, ap, subst, arith, length, map}
use Rattle.std.specs.Prelude.{slice_get, slice_index_or}
use Rattle.std.specs.Option.{option_map}
use Rattle.std.proofs.lemmas.List.{length-map, map-append}
use Rattle.plan_parts.specs.PlanFormulas.{formulas_of_plan}
use Rattle.plan_parts.specs.Plan.{PlanParts}
use Rattle.plan_parts.specs.declared.block.Block.{Block}
use Rattle.plan_parts.specs.declared.formulas.formula.Formula.{Formula}
use Rattle.plan_parts.specs.declared.grid.Grid.{Grid}
use Rattle.precedence.specs.Identifier.{blocks_of_rows, IsFirstAgain}
use Rattle.rows.specs.declared.item.Valued.{Valued}
use Rattle.zone_csv.specs.Zone.{blocks_of}
use Rattle.pit_compile.specs.Rows.{model_blocks, model_rows, rows_from, rows_in}
use Rattle.pit_compile.specs.Verdict.{IsFirstRepeat}
use Rattle.refusals.specs.declared.refusal.RowAt.{RowAt}
use Rattle.pit_compile.specs.inner.ValuedRows.{IsValuedAt, RepeatsFirst, at_of, valued_from, valued_in, valued_rows}

-- a row without its worths
abbrev plain : Valued → RowAt × Block
plain row = (at_of row, row.block)

from_blocks : (blocks : List Block) (formulas : List Formula) (file n : ℕ)
    → map plain (valued_from blocks formulas file n) ≡ rows_from blocks file (n + 2)
from_blocks [] formulas file n = refl
from_blocks (b ∷ blocks) formulas file n =
    let next : n + 1 + 2 ≡ n + 2 + 1 = omega arith in
    let first : RowAt × Block = (record { file = file; row = n + 2 }, b) in
    ap (λ rows. first ∷ rows) (from_blocks blocks formulas file (n + 1) ∙ ap (rows_from blocks file) next)

in_files : (texts : List (List ℕ)) (grid : Grid) (formulas : List Formula) (n : ℕ)
    → map plain (valued_in texts grid formulas n) ≡ rows_in texts grid n
in_files [] grid formulas n = refl
in_files (text ∷ texts) grid formulas n =
    map-append plain (valued_from (blocks_of grid n text) formulas n 0) (valued_in texts grid formulas (n + 1))
    ∙ (λ j. from_blocks (blocks_of grid n text) formulas n 0 j ++ in_files texts grid formulas (n + 1) j)

rows_are : (plan : PlanParts) (texts : List (List ℕ)) → map plain (valued_rows plan texts) ≡ model_rows plan texts
rows_are plan texts = in_files texts plan.grid (formulas_of_plan plan) 0

blocks_stay : (rows : List Valued) → blocks_of_rows rows ≡ map (λ row. row.1) (map plain rows)
blocks_stay [] = refl
blocks_stay (row ∷ rows) = ap (λ blocks. row.block ∷ blocks) (blocks_stay rows)

pub blocks_are : (plan : PlanParts) (texts : List (List ℕ)) → blocks_of_rows (valued_rows plan texts) ≡ model_blocks plan texts
blocks_are plan texts = blocks_stay (valued_rows plan texts) ∙ ap (map (λ (row : RowAt × Block). row.1)) (rows_are plan texts)

-- the row at a position
there : (rows : List Valued) (i : ℕ) (d : Valued) → i < length rows
    → option_map (λ (row : RowAt × Block). row.0) (slice_get (map plain rows) i) ≡ Some (at_of (slice_index_or rows i d))
there [] i d within = absurd (omega (arith, within))
there (row ∷ rows) zero d within = refl
there (row ∷ rows) (suc i) d within = there rows i d (omega (arith, within))

module _ (plan : PlanParts) (texts : List (List ℕ)) where
  row_at : (i : ℕ) (at : RowAt) → i < length (blocks_of_rows (valued_rows plan texts)) → IsValuedAt (valued_rows plan texts) i at
      → option_map (λ (row : RowAt × Block). row.0) (slice_get (model_rows plan texts) i) ≡ Some at
  row_at i at within is =
      let rows = valued_rows plan texts in
      let inside : i < length rows = omega (arith, within, length-map rows (λ (row : Valued). row.block)) in
      ap (λ listed. option_map (λ (row : RowAt × Block). row.0) (slice_get listed i)) (sym (rows_are plan texts))
      ∙ by_row rows inside is
    where
      by_row : (rows : List Valued) → i < length rows → IsValuedAt rows i at
          → option_map (λ (row : RowAt × Block). row.0) (slice_get (map plain rows) i) ≡ Some at
      by_row [] inside is = absurd (omega (arith, inside))
      by_row (row ∷ rows) inside is = there (row ∷ rows) i row inside ∙ ap Some (sym (is row inside))

  pub first_repeat : (first again : RowAt) → RepeatsFirst (valued_rows plan texts) first again
      → IsFirstRepeat (model_rows plan texts) first again
  first_repeat first again h = record {
    earlier = h.earlier;
    later = h.later;
    repeats = subst (λ blocks. IsFirstAgain blocks h.earlier h.later) (blocks_are plan texts) h.repeats;
    first_row = row_at h.earlier first (omega (arith, h.repeats.before, h.repeats.within)) h.first_row;
    again_row = row_at h.later again h.repeats.within h.again_row;
  }
