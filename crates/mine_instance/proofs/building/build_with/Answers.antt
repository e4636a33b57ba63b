use Rattle.std.proofs.Common.{◌∙◌}
use Rattle.mine_instance.specs.coefs.CoveredPairs.{coefs_of}
use Rattle.mine_instance.proofs.building.build_with.Goals as goal

pub of_parts-requires-clause-coefs : goal.of_parts-requires-clause-coefs
of_parts-requires-clause-coefs g c =
    c.in_ok-coefs.ensures ∙ (λ j. coefs_of (c.in_ok-pairs.ensures.pairs j) (c.as_slice.ensures.value j))
