use Rattle.std.proofs.Common.{sym}
use Rattle.lane.proofs.Rules.{sends}
use Rattle.lane.proofs.seated.SeatedSender.try_put.Goals as goal

pub try_send_as-requires-clause-rule : goal.try_send_as-requires-clause-rule
try_send_as-requires-clause-rule g c = (sends _ _ _ _ (rw (sym c.self.view_is) at c.requires.may), λ items views h e. tt)
