use Rattle.std.proofs.Common.{◌-◌, get_or}
use Rattle.precedence.specs.inner.Lists.{Appends}
use Rattle.precedence.proofs.bits.Windows.{AreListed}
use Rattle.precedence.proofs.lanes.windows.add_lane.Given as goal

abbrev pub invariant-loop-found : goal.invariant-loop-found
invariant-loop-found l = Appends
    (AreListed l.cones.places.now.codes.items (get_or l.cones.places.now.codes.items l.id 0) (get_or l.cones.places.now.codes.items l.id 0 - l.window.base)
    l.found-index l.window.found.items)
    l.initial.ranges.items l.ranges.items
