use Rattle.std.proofs.Common.{sym}
use Rattle.lane.proofs.seated.SeatedSender.give_receiver.Goals as goal

pub another-pass-requires-clause-rule : goal.another-pass-requires-clause-rule
another-pass-requires-clause-rule c = (rw (sym c.self.view_is) at c.requires.may) c.self.inside.pass.id
