use Rattle.std.proofs.Common.{sym}
use Rattle.lane.proofs.Rules.{takes}
use Rattle.lane.proofs.seated.SeatedReceiver.try_take.Goals as goal

pub try_recv_as-requires-clause-rule : goal.try_recv_as-requires-clause-rule
try_recv_as-requires-clause-rule g c = (takes _ _ (rw (sym c.self.view_is) at c.requires.may), λ items views h e. tt)
