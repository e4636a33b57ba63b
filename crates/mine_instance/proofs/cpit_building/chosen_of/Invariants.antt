use Rattle.std.proofs.Common.{◌≡◌, ◌-◌, ◌≤◌, length, map, take}
use Rattle.std.specs.Prelude.{filter}
use Rattle.mine_instance.specs.cpit.OfCpit.{is_chosen, at_only_destination}
use Rattle.mine_instance.proofs.cpit_building.chosen_of.Given as goal

-- The coefficients so far that are at their blocks' destinations are chosen.
abbrev pub invariant-loop-from : goal.invariant-loop-from
invariant-loop-from g l = record {
  within : l.from ≤ length (g.C.CoefList.list l.coefs);
  chosen : l.chosen.items ≡ map at_only_destination (filter (is_chosen (g.V.ValueList.list l.values)) (take l.from (g.C.CoefList.list l.coefs)));
}

abbrev pub decreases-loop-from : goal.decreases-loop-from
decreases-loop-from g l = length (g.C.CoefList.list l.coefs) - l.from
