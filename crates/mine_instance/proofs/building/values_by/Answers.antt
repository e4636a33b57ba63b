use Rattle.std.proofs.Common.{◌≡◌, ◌<◌, ◌∙◌, ◌++◌, ◌∷◌, [], ap, sym, length, map, take, get_or, arith}
use Rattle.std.proofs.lemmas.List.{map-append, take_more}
use Rattle.std.proofs.lemmas.List.Elements.{All-map}
use Rattle.mine_instance.specs.OfModel.{in_hundreds, values_of}
use Rattle.mine_instance.proofs.ModelFacts.{length-values_of, worths_fit}
use Rattle.mine_instance.proofs.ValueFacts.{row_values}
use Rattle.mine_instance.proofs.building.values_by.Goals as goal

pub push_values-requires : goal.push_values-requires
push_values-requires c =
    let own = row_values c.args.plan.now c.args.rows.now _ c.args.numbering.now c.loop-position.position-index
    c.index-rows-position.result c.requires.numbering c.requires.worths c.positions-position-items.ensures.value c.loop-position-test.true in
    rw c.as_slice.ensures.value
    (worths_fit c.worths_are_in_range.ensures c.args.plan.now _ _ own.0 c.formulas-width.ensures.kept.formulas)

pub push-requires-clause-width : goal.push-requires-clause-width
push-requires-clause-width c =
    let plan = c.args.plan.now in
    let blocks = c.args.numbering.now.blocks in
    let i = c.loop-position.position-index in
    let row = c.index-rows-position.result in
    let own = row_values plan c.args.rows.now _ c.args.numbering.now i row c.requires.numbering c.requires.worths
    c.positions-position-items.ensures.value c.loop-position-test.true in
    let values = c.as_slice-in-loop-position.ensures.value ∙ c.in_ok-push_values.ensures
    ∙ (λ j. c.clear.ensures.items j ++ map in_hundreds (c.as_slice.ensures.value j)) ∙ own.1 in
    let wide = length-values_of plan (get_or blocks i row.block) in
    rw (c.loop-position.invariant, values)
    (All-map (λ vs. length vs ≡ length (values_of plan (get_or blocks i row.block))) (values_of plan) (take i blocks)
    (λ k d h. length-values_of plan (get_or (take i blocks) k d) ∙ sym wide))

pub loop-position-preserved : goal.loop-position-preserved
loop-position-preserved c =
    let plan = c.args.plan.now in
    let blocks = c.args.numbering.now.blocks in
    let i = c.loop-position.position-index in
    let row = c.index-rows-position.result in
    let own = row_values plan c.args.rows.now _ c.args.numbering.now i row c.requires.numbering c.requires.worths
    c.positions-position-items.ensures.value c.loop-position-test.true in
    let values = c.as_slice-in-loop-position.ensures.value ∙ c.in_ok-push_values.ensures
    ∙ (λ j. c.clear.ensures.items j ++ map in_hundreds (c.as_slice.ensures.value j)) ∙ own.1 in
    let positions = c.positions-position-items.ensures in
    let within : i < length blocks = omega (arith, c.loop-position-test.true, ap length positions.value, positions.each) in
    c.in_ok-push.ensures.ok ∙ (λ j. c.loop-position.invariant j ++ values j ∷ [])
    ∙ sym (ap (map (values_of plan)) (take_more blocks i row.block within) ∙ map-append (values_of plan) (take i blocks) _)
