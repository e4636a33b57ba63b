use Rattle.std.proofs.Common.{sym, ap}
use Rattle.lane.proofs.Opens.{take_given, ends_next}
use Rattle.lane.proofs.opening.take_ends.Goals as goal

pub give_receiver-requires-clause-may : goal.give_receiver-requires-clause-may
give_receiver-requires-clause-may c = rw c.loop-taker.invariant.0 (take_given c.args.files c.args.takers _ c.loop-taker.taker c.loop-taker-test.true).0

pub new-requires : goal.new-requires
new-requires c = record {
  part = rw (c.in_ok-end.ensures.given, c.loop-taker.invariant.0) (take_given c.args.files c.args.takers _ c.loop-taker.taker c.loop-taker-test.true).2;
}

pub loop-taker-preserved : goal.loop-taker-preserved
loop-taker-preserved c = (
  rw (c.in_ok-end.ensures.remaining, c.loop-taker.invariant.0)
      (ap (λ v. record c.args.seat.now { known = v }) (take_given c.args.files c.args.takers _ c.loop-taker.taker c.loop-taker-test.true).1),
  rw (
    c.in_ok-push.ensures.items,
    c.loop-taker.invariant.1,
    c.new.ensures.value,
    c.in_ok-end.ensures.given,
    c.loop-taker.invariant.0,
  )
      (sym (ends_next _ c.loop-taker.taker)),
)
