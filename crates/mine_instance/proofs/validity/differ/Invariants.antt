use Rattle.std.proofs.Common.{◌≢◌, ℕ, ◌<◌, get_or}
use Rattle.mine_instance.proofs.validity.differ.Given as goal

abbrev pub invariant-loop-index : goal.invariant-loop-index
invariant-loop-index l = (i j d : ℕ) → i < j → j < l.index → get_or l.ids i d ≢ get_or l.ids j d
