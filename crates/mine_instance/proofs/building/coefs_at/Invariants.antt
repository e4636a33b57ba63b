use Rattle.std.proofs.Common.{◌≡◌, take}
use Rattle.mine_instance.specs.coefs.CoveredPairs.{coefs_of}
use Rattle.mine_instance.proofs.building.coefs_at.Given as goal

abbrev pub invariant-loop-id : goal.invariant-loop-id
invariant-loop-id l = l.coefs.items ≡ coefs_of l.pairs (take l.id l.blocks)
