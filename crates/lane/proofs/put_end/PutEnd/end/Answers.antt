use Rattle.std.proofs.Common.{subst, sym, refl}
use Rattle.lane.specs.EndFields.{SeatView, capacity_of}
use Rattle.lane.specs.inner.Kept.{IsEndedPut}
use Rattle.lane.proofs.Ends.{end_put}
use Rattle.lane.proofs.put_end.PutEnd.end.Goals as goal

pub invariant_of-result : goal.invariant_of-result
invariant_of-result g c =
    subst (λ (s : SeatView). IsEndedPut s.known c.self.inside.file (capacity_of s) c.self.inside.rows) (sym c.put.ensures.sent)
    (end_put _ _ _ _ _ c.self.invariant refl)

pub returns-clause-ended : goal.returns-clause-ended
returns-clause-ended g c = (invariant_of-result g c).list
