use Rattle.std.proofs.Common.{◌≡◌, length, map, take, get_or}
use Rattle.plan_parts.specs.declared.block.Block.{Block}
use Rattle.precedence.proofs.numbering.number_by_place.blocks_at.Given as goal

abbrev pub invariant-loop-position : goal.invariant-loop-position
invariant-loop-position g l = record {
  len : length l.ordered.items ≡ l.position-index;
  blocks : (d : Block) → l.ordered.items ≡ map (λ p. get_or (g.L.ListedBlocks.listed l.listed) p d) (take l.position-index l.positions);
}
