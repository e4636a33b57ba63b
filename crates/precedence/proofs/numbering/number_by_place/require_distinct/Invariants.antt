use Rattle.std.proofs.Common.{◌≡◌, take, nat_eq}
use Rattle.indexmap.specs.IndexMap.{IsUnique}
use Rattle.precedence.specs.inner.Seen.{placed}
use Rattle.precedence.proofs.numbering.number_by_place.require_distinct.Given as goal

abbrev pub invariant-loop-position : goal.invariant-loop-position
invariant-loop-position g l = record {
  entries : l.seen.entries ≡ placed 0 (take l.position (g.L.ListedBlocks.listed l.listed));
  unique : IsUnique nat_eq l.seen;
}
