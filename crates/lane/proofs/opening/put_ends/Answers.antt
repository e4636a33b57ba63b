use Rattle.std.proofs.Common.{sym, ap}
use Rattle.lane.proofs.Opens.{put_given, ends_next}
use Rattle.lane.proofs.opening.put_ends.Goals as goal

pub give_sender-requires : goal.give_sender-requires
give_sender-requires c = record { may = rw c.loop-file.invariant.0 (put_given _ _ _ _ c.loop-file-test.true).0 }

pub new-requires : goal.new-requires
new-requires c = record {
  part = rw (c.in_ok-end.ensures.given, c.loop-file.invariant.0) (put_given _ _ _ _ c.loop-file-test.true).2;
}

pub loop-file-preserved : goal.loop-file-preserved
loop-file-preserved c = (
  rw (c.in_ok-end.ensures.remaining, c.loop-file.invariant.0)
      (ap (λ v. record c.args.seat.now { known = v }) (put_given _ _ _ _ c.loop-file-test.true).1),
  rw (
    c.in_ok-push.ensures.items,
    c.loop-file.invariant.1,
    c.new.ensures.value,
    c.in_ok-end.ensures.given,
    c.loop-file.invariant.0,
  )
      (sym (ends_next _ c.loop-file.file)),
)
