use Rattle.std.proofs.Common.{◌≡◌, ◌++◌, take}
use Rattle.mine_instance.specs.coefs.CoveredPairs.{covering}
use Rattle.mine_instance.proofs.building.push_covering.Given as goal

abbrev pub invariant-loop-number : goal.invariant-loop-number
invariant-loop-number l = l.pairs.items ≡ l.initial.pairs.items ++ covering (take l.number l.resources) l.destination
