use Rattle.std.proofs.Common.{◌≡◌, ◌∷◌}
use Rattle.lane.specs.declared.part.Part.TheVariants.{Close}
use Rattle.lane.specs.Rule.{put_parts}
use Rattle.lane.specs.EndFields.{capacity_of, sent_lists}
use Rattle.lane.proofs.closer.put_stops.Given as goal

abbrev pub invariant-loop-stop : goal.invariant-loop-stop
invariant-loop-stop g l =
    l.seat ≡ record l.fn.seat {
      known = Close l.files l.takers (capacity_of l.fn.seat) l._stop 0
          ∷ put_parts (capacity_of l.fn.seat) 0 (sent_lists l.fn.seat.known);
    }
