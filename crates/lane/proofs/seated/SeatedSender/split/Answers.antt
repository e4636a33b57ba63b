use Rattle.std.proofs.Common.{sym}
use Rattle.lane.proofs.seated.SeatedSender.split.Goals as goal

pub another-spent-requires-clause-rule : goal.another-spent-requires-clause-rule
another-spent-requires-clause-rule g c = (rw (sym c.self.view_is) at c.requires.rule) c.self.inside.pass.id
