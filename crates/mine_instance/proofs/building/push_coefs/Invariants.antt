use Rattle.std.proofs.Common.{◌≡◌, ◌++◌, map, take}
use Rattle.mine_instance.specs.coefs.CoveredPairs.{coef_of}
use Rattle.mine_instance.proofs.building.push_coefs.Given as goal

abbrev pub invariant-loop-d : goal.invariant-loop-d
invariant-loop-d l = l.coefs.items ≡ l.initial.coefs.items ++ map (coef_of l.b l.v) (take l.d-index l.pairs)
