use Rattle.std.proofs.Common.{◌≡◌, take}
use Rattle.precedence.specs.inner.Seen.{placed}
use Rattle.precedence.proofs.numbering.number_by_place.places_of_list.Given as goal

abbrev pub invariant-loop-position : goal.invariant-loop-position
invariant-loop-position g l = l.places.items ≡ placed 0 (take l.position (g.L.ListedBlocks.listed l.listed))
