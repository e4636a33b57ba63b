use Rattle.std.proofs.Common.{◌≡◌, ℕ, ◌/◌, ◌<◌, true, get_or}
use Rattle.plan_parts.specs.declared.block.Block.{Block}
use Rattle.precedence.specs.inner.lanes.Bits.{has_bit}
use Rattle.precedence.proofs.places.columns.columns_in.Given as goal

abbrev pub invariant-loop-block : goal.invariant-loop-block
invariant-loop-block l = (k : ℕ) (d : Block) → k < l.block-index → has_bit l.columns ((get_or l.blocks k d).x / 79) ≡ true
