use Rattle.std.proofs.Common.{ℕ, ◌<◌, [], get_or}
use Rattle.mine_instance.specs.Valid.{ArePredsOf}
use Rattle.mine_instance.proofs.validity.are_preds.Given as goal

abbrev pub invariant-loop-id : goal.invariant-loop-id
invariant-loop-id l = (k : ℕ) → k < l.id → ArePredsOf k l.count (get_or l.preds k [])
