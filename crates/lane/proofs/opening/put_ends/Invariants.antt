use Rattle.std.proofs.Common.{◌≡◌}
use Rattle.lane.specs.Ends.{first_puts}
use Rattle.lane.specs.EndFields.{capacity_of}
use Rattle.lane.specs.inner.Kept.{puts_remaining}
use Rattle.lane.proofs.opening.put_ends.Given as goal

abbrev pub invariant-loop-file : goal.invariant-loop-file
invariant-loop-file l =
    (l.seat ≡ record l.fn.seat { known = puts_remaining l.files l.takers (capacity_of l.fn.seat) l.file })
    × (l.ends.items ≡ first_puts l.fn.seat.lane 0 l.file)
