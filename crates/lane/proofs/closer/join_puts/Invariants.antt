use Rattle.std.proofs.Common.{◌≡◌, length}
use Rattle.std.specs.Vec.Iter.{into_iter_items, into_iter_len}
use Rattle.lane.specs.EndFields.{capacity_of}
use Rattle.lane.specs.inner.Kept.{IsJoining}
use Rattle.lane.proofs.closer.join_puts.Given as goal

abbrev pub invariant-loop-put : goal.invariant-loop-put
invariant-loop-put l =
    (l.seat.lane ≡ l.fn.seat.lane)
    × IsJoining (record { files = l.files; takers = l.takers; capacity = capacity_of l.fn.seat }) l.fn.seat.lane
    (into_iter_items l.initial.put-iterator) (into_iter_items l.put-iterator) l.seat.known l.rows
    × (into_iter_len l.put-iterator ≡ length (into_iter_items l.put-iterator))
