use Rattle.std.proofs.Common.{◌≡◌, ◌++◌, map, take}
use Rattle.mine_instance.specs.OfModel.{in_hundreds}
use Rattle.mine_instance.proofs.building.push_values.Given as goal

abbrev pub invariant-loop-cents : goal.invariant-loop-cents
invariant-loop-cents l = l.own.items ≡ l.initial.own.items ++ map in_hundreds (take l.cents-index l.worths)
