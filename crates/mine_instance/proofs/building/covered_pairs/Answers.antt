use Rattle.std.proofs.Common.{length, ap, arith}
use Rattle.mine_instance.proofs.BuildFacts.{pairs_few}
use Rattle.mine_instance.proofs.building.covered_pairs.Goals as goal

pub returns-clause-few : goal.returns-clause-few
returns-clause-few c =
    let kept = c.formulas-destination-end.ensures.kept in
    let few = pairs_few c.args.plan.now.resources 0 c.loop-destination.destination kept.resources in
    omega (
      arith,
      ap length c.loop-destination.invariant,
      few,
      c.loop-destination.auto.destination-end,
      ap length c.formulas-destination-end.ensures.value,
      kept.destinations.1,
    )
