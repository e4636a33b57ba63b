use Rattle.std.proofs.Common.{◌≡◌}
use Rattle.std.specs.List.{flat_map, range_with_len}
use Rattle.mine_instance.specs.coefs.CoveredPairs.{covering}
use Rattle.mine_instance.proofs.building.covered_pairs.Given as goal

abbrev pub invariant-loop-destination : goal.invariant-loop-destination
invariant-loop-destination l = l.pairs.items ≡ flat_map (covering l.plan.resources) (range_with_len 0 l.destination)
