use Rattle.std.proofs.Common.{◌≡◌}
use Rattle.precedence.specs.inner.Arcs.{arcs_before}
use Rattle.precedence.specs.inner.Lists.{in_cone}
use Rattle.precedence.proofs.lists.arc_counts.arcs_in_cones.Given as goal

abbrev pub invariant-loop-number : goal.invariant-loop-number
invariant-loop-number l =
    l.arcs ≡ arcs_before (in_cone l.tables.tables.items l.tables.of_zone.items l.places.codes.items) l.tables.of_zone.items l.number l.zones l.places.codes.items
