use Rattle.std.proofs.Common.{◌≡◌, ◌<◌, ◌∙◌, ℕ, List, length, map, All, sym, ap, subst}
use Rattle.plan_parts.specs.declared.block.Block.{Block}
use Rattle.precedence.specs.Identifier.{blocks_of_rows}
use Rattle.rows.specs.declared.item.Valued.{Valued}
use Rattle.std.proofs.lemmas.List.{length-map}
use Rattle.std.proofs.lemmas.List.Elements.{All-map}
use Rattle.mine_instance.specs.OfModel.{values_of}
use Rattle.pit_compile.proofs.Apart.{apart, numbered_too}
use Rattle.pit_compile.proofs.instance_building.instance_of_rows.Goals as goal

pub new-requires : goal.new-requires
new-requires c =
    let InPlan : Block → Type 0 = λ b. b.zone < length c.args.plan.now.cones in
    let rows = c.args.rows in
    numbered_too InPlan (blocks_of_rows rows) c.in_ok-numbering.numbering c.in_ok-numbering.ensures.numbering
    (All-map InPlan (λ (row : Valued). row.block) rows c.requires.zones)

pub new-values-requires : goal.new-values-requires
new-values-requires c =
    let rows = c.args.rows in
    let parts = c.into_parts-blocks in
    let numbering = c.in_ok-numbering.numbering in
    let count : length numbering.blocks ≡ length c.in_ok-worths.worths =
    c.in_ok-numbering.ensures.numbering.blocks ∙ length-map rows (λ (row : Valued). row.block)
    ∙ sym (ap length c.in_ok-worths.ensures ∙ length-map rows (λ (row : Valued). row.worths)) in
    let Within : ℕ → List ℕ → Type 0 = λ n ps. All (λ p. p < n) ps in
    subst (λ n. Within n parts.result.1.items) count
    (subst (Within (length numbering.blocks)) (sym parts.ensures.positions) parts.ensures.within)

pub build_with-requires-clause-values : goal.build_with-requires-clause-values
build_with-requires-clause-values c =
    let parts = c.into_parts-blocks in
    c.new-values.ensures.of_model c.args.plan.now c.args.rows c.in_ok-numbering.numbering (c.in_ok-worths.ensures, c.requires.valued)
    c.in_ok-numbering.ensures.numbering (sym parts.ensures.positions)
    ∙ ap (map (values_of c.args.plan.now)) (sym parts.ensures.blocks)

pub returns-clause-value : goal.returns-clause-value
returns-clause-value c =
    c.in_ok-build_with.ensures.value (blocks_of_rows c.args.rows) c.in_ok-numbering.numbering c.in_ok-numbering.ensures.numbering
    (sym c.into_parts-blocks.ensures.blocks)

pub returns-clause-apart : goal.returns-clause-apart
returns-clause-apart c = apart (blocks_of_rows c.args.rows) c.in_ok-numbering.numbering c.in_ok-numbering.ensures.numbering
