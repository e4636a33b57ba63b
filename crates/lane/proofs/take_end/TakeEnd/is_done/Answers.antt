use Rattle.std.proofs.Common.{sym, ◌∙◌}
use Rattle.lane.proofs.Messages.{done_is_last}
use Rattle.lane.proofs.take_end.TakeEnd.is_done.Goals as goal

pub returns-clause-last : goal.returns-clause-last
returns-clause-last c = rw (sym c.self.view_is) (c.self.invariant.1 ∙ done_is_last _ c.self.invariant.0.ordered.marks)
