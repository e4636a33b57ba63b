use Rattle.std.proofs.Common.{refl}
use Rattle.lane.specs.EndFields.{capacity_of, sent_lists}
use Rattle.lane.proofs.Joining.{may_stop}
use Rattle.lane.proofs.closer.put_stops.Goals as goal

pub put-requires : goal.put-requires
put-requires g c = record {
  may = rw c.loop-stop.invariant
      (may_stop _ c.args.files c.args.takers (capacity_of c.args.seat.now) c.loop-stop._stop (sent_lists c.args.seat.now.known) refl
      c.requires.joined.all_files c.requires.joined.ended c.loop-stop-test.true);
}
