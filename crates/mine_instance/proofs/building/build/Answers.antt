use Rattle.std.proofs.Common.{◌∙◌, ap, map, sym}
use Rattle.mine_instance.specs.OfModel.{values_of}
use Rattle.mine_instance.specs.coefs.CoveredPairs.{coefs_of}
use Rattle.precedence.specs.Identifier.{blocks_of_rows}
use Rattle.mine_instance.proofs.building.build.Goals as goal

pub of_parts-requires-clause-values : goal.of_parts-requires-clause-values
of_parts-requires-clause-values c =
    c.in_ok-values.ensures ∙ ap (map (values_of c.args.plan.now)) (sym (c.in_ok-blocks.ensures.items ∙ c.blocks-2.ensures.value))

pub of_parts-requires-clause-coefs : goal.of_parts-requires-clause-coefs
of_parts-requires-clause-coefs c =
    c.in_ok-coefs.ensures
    ∙ (λ j. coefs_of ((c.as_slice.ensures.value ∙ c.in_ok-pairs.ensures.pairs) j) (c.as_slice-2.ensures.value j))

pub returns-clause-value : goal.returns-clause-value
returns-clause-value c =
    c.of_parts.ensures.value (blocks_of_rows c.args.rows.now) c.args.numbering.now c.requires.numbering
    (sym (c.in_ok-blocks.ensures.items ∙ c.blocks-2.ensures.value))
