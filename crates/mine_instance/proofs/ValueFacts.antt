-- The values of blocks from the worths of rows at the positions of a numbering, stored row by row.
use Rattle.std.proofs.Common.{◌≡◌, ℕ, ◌<◌, ℤ, List, [], ◌∷◌, length, map, get_or, All, refl, sym, ap, ◌∙◌, arith}
use Rattle.std.proofs.lemmas.List.{get_or-map, length-map, same_lists}
use Rattle.std.proofs.lemmas.List.Elements.{All-head, All-tail}
use Rattle.plan_parts.specs.Plan.{PlanParts}
use Rattle.plan_parts.specs.PlanFormulas.{formulas_of_plan}
use Rattle.plan_parts.specs.declared.block.Block.{Block}
use Rattle.precedence.specs.Identifier.{blocks_of_rows}
use Rattle.precedence.specs.Numbering.{IsNumbering, NumberingView}
use Rattle.rows.specs.Valued.{worths_by}
use Rattle.rows.specs.declared.item.Valued.{Valued}
use Rattle.mine_instance.specs.OfModel.{in_hundreds, values_of}
use Rattle.mine_instance.specs.WorthsOf.{AreWorthsOf}
use Rattle.mine_instance.specs.inner.LazyValueFields.{values_at}

-- the worths of rows are the worths of their blocks
worths_of_blocks : (plan : PlanParts) (rows : List Valued) → All (λ row. row.worths ≡ worths_by (formulas_of_plan plan) row.block) rows
    → map (λ row. row.worths) rows ≡ map (worths_by (formulas_of_plan plan)) (blocks_of_rows rows)
worths_of_blocks plan [] all = refl
worths_of_blocks plan (row ∷ rows) all =
    let Own : Valued → Type 0 = λ row. row.worths ≡ worths_by (formulas_of_plan plan) row.block in
    λ i. All-head Own row rows all i ∷ worths_of_blocks plan rows (All-tail Own row rows all) i

-- the elements at the positions of a numbering belong to the blocks in order of identifier
numbered_at : (value : Block → List ℤ) (blocks : List Block) (n : NumberingView) → IsNumbering blocks n
    → map (λ p. get_or (map value blocks) p []) n.positions ≡ map value n.blocks
numbered_at value blocks n is =
    same_lists _ _ (length-map n.positions at ∙ is.positions ∙ sym is.blocks ∙ sym (length-map n.blocks value)) (each blocks is)
  where
    at : ℕ → List ℤ
    at p = get_or (map value blocks) p []

    each : (listed : List Block) → IsNumbering listed n → (k : ℕ) (d : List ℤ)
        → k < length (map (λ p. get_or (map value listed) p []) n.positions)
        → get_or (map (λ p. get_or (map value listed) p []) n.positions) k d ≡ get_or (map value n.blocks) k d
    each [] is k d h = absurd (omega (arith, length-map n.positions (λ (p : ℕ). get_or (map value []) p []), is.positions))
    each (b ∷ bs) is k d h =
        let listed : List Block = b ∷ bs in
        let own : ℕ → List ℤ = λ p. get_or (map value listed) p [] in
        let long : length (map own n.positions) ≡ length n.positions = length-map n.positions own in
        let low : k < length listed = omega (arith, is.positions) in
        get_or-map own n.positions k 0 d (omega arith)
        ∙ get_or-map value listed (get_or n.positions k 0) b [] (is.within k low)
        ∙ ap value (is.at_position k b low)
        ∙ sym (get_or-map value n.blocks k b d (omega (arith, is.blocks)))

-- a map in two steps
in_two_steps : {X Y Z : Type 0} (f : Y → Z) (g : X → Y) (xs : List X) → map (λ x. f (g x)) xs ≡ map f (map g xs)
in_two_steps f g [] = refl
in_two_steps f g (x ∷ xs) = ap (λ ys. f (g x) ∷ ys) (in_two_steps f g xs)

-- the worths of rows at the positions of their blocks' numbering make the values of the blocks in order of identifier
pub values_found : (worths : List (List ℤ)) (positions : List ℕ) (plan : PlanParts) (rows : List Valued) (n : NumberingView)
    → AreWorthsOf plan worths rows → IsNumbering (blocks_of_rows rows) n → n.positions ≡ positions
    → map (values_at worths) positions ≡ map (values_of plan) n.blocks
values_found worths positions plan rows n are is same =
    let worth : Block → List ℤ = worths_by (formulas_of_plan plan) in
    let own : worths ≡ map worth (blocks_of_rows rows) = are.0 ∙ worths_of_blocks plan rows are.1 in
    in_two_steps (map in_hundreds) (λ p. get_or worths p []) positions
    ∙ ap (map (map in_hundreds)) ((λ i. map (λ p. get_or (own i) p []) (sym same i)) ∙ numbered_at worth (blocks_of_rows rows) n is)
    ∙ sym (in_two_steps (map in_hundreds) worth n.blocks)

-- the row at a position of the numbering has the worths of its block, which make the values of the block with that identifier
pub row_values : (plan : PlanParts) (rows : List Valued) (positions : List ℕ) (n : NumberingView) (i : ℕ) (d : Valued)
    → IsNumbering (blocks_of_rows rows) n → All (λ row. row.worths ≡ worths_by (formulas_of_plan plan) row.block) rows
    → positions ≡ n.positions → i < length positions
    → ((get_or rows (get_or positions i 0) d).worths ≡ worths_by (formulas_of_plan plan) (get_or rows (get_or positions i 0) d).block)
    × (map in_hundreds (get_or rows (get_or positions i 0) d).worths ≡ values_of plan (get_or n.blocks i d.block))
row_values plan rows positions n i d is own same low =
    let block : Valued → Block = λ row. row.block in
    let low : i < length (blocks_of_rows rows) = omega (arith, low, ap length same, is.positions) in
    let here : get_or positions i 0 ≡ get_or n.positions i 0 = λ j. get_or (same j) i 0 in
    let within : get_or positions i 0 < length rows = omega (arith, here, is.within i low, length-map rows block) in
    let worths = own (get_or positions i 0) d within in
    let own_block : block (get_or rows (get_or positions i 0) d) ≡ get_or n.blocks i d.block =
    sym (get_or-map block rows (get_or positions i 0) d d.block within)
    ∙ (λ j. get_or (blocks_of_rows rows) (here j) d.block) ∙ is.at_position i d.block low in
    (worths, ap (map in_hundreds) worths ∙ ap (values_of plan) own_block)
