use Rattle.std.proofs.Common.{◌≡◌, map, take}
use Rattle.mine_instance.specs.OfModel.{values_of}
use Rattle.mine_instance.proofs.building.values_by.Given as goal

-- The values of the blocks so far are stored.
abbrev pub invariant-loop-position : goal.invariant-loop-position
invariant-loop-position l = l.values ≡ map (values_of l.plan) (take l.position-index l.numbering.blocks)
