use Rattle.std.proofs.Common.{◌≡◌, take}
use Rattle.mine_instance.specs.inner.LazyCoefFields.{heavy_of}
use Rattle.mine_instance.proofs.coefs.lazy.heavy_of.Given as goal

abbrev pub invariant-loop-id : goal.invariant-loop-id
invariant-loop-id l = l.heavy.items ≡ heavy_of (take l.id l.blocks)
