use Rattle.std.proofs.Common.{◌≡◌, ◌++◌, map, take}
use Rattle.std.specs.Prelude.{filter, ◌==◌}
use Rattle.mine_instance.specs.coefs.CoveredPairs.{coef_of}
use Rattle.mine_instance.specs.cpit.OfCpit.{at_only_destination}
use Rattle.mine_instance.proofs.cpit_building.push_at.Given as goal

abbrev pub invariant-loop-d : goal.invariant-loop-d
invariant-loop-d l =
    l.chosen.items ≡ l.initial.chosen.items
    ++ map at_only_destination (filter (λ coef. coef.d == l.destination) (map (coef_of l.b l.v) (take l.d-index l.d-items)))
