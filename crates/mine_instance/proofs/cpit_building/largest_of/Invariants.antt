use Rattle.std.proofs.Common.{◌≡◌, map, take}
use Rattle.mine_instance.specs.Largest.{largest}
use Rattle.mine_instance.proofs.cpit_building.largest_of.Given as goal

abbrev pub invariant-loop-block : goal.invariant-loop-block
invariant-loop-block g l = l.all.items ≡ map largest (take l.block (g.V.ValueList.list l.values))
