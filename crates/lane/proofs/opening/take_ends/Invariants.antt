use Rattle.std.proofs.Common.{◌≡◌}
use Rattle.lane.specs.Ends.{first_takes}
use Rattle.lane.specs.EndFields.{capacity_of}
use Rattle.lane.specs.inner.Kept.{takes_remaining}
use Rattle.lane.proofs.opening.take_ends.Given as goal

abbrev pub invariant-loop-taker : goal.invariant-loop-taker
invariant-loop-taker l =
    (l.seat ≡ record l.fn.seat { known = takes_remaining l.files l.takers (capacity_of l.fn.seat) l.taker })
    × (l.ends.items ≡ first_takes l.fn.seat.lane 0 l.taker)
