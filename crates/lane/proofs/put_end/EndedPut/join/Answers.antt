use Rattle.std.proofs.Common.{sym}
use Rattle.lane.proofs.Messages.{ended_has_end}
use Rattle.lane.proofs.put_end.EndedPut.join.Goals as goal

pub returns-clause-ended : goal.returns-clause-ended
returns-clause-ended c = rw (sym c.self.view_is) (ended_has_end _ _ _ c.self.invariant.list)
