use Rattle.std.proofs.Common.{◌≡◌, length}
use Rattle.std.specs.Vec.Iter.{into_iter_items, into_iter_len}
use Rattle.lane.specs.EndFields.{sent_lists, capacity_of}
use Rattle.lane.specs.inner.Kept.{IsGathering}
use Rattle.lane.proofs.closer.join_takes.Given as goal

abbrev pub invariant-loop-take : goal.invariant-loop-take
invariant-loop-take l =
    (l.seat.lane ≡ l.fn.seat.lane)
    × IsGathering (record { files = length (sent_lists l.fn.seat.known); takers = l.takers; capacity = capacity_of l.fn.seat }) l.fn.seat.lane
    (sent_lists l.fn.seat.known) (into_iter_items l.initial.take-iterator) (into_iter_items l.take-iterator) l.seat.known
    × (into_iter_len l.take-iterator ≡ length (into_iter_items l.take-iterator))
