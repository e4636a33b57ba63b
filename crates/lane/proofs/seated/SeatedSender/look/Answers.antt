use Rattle.std.proofs.Common.{sym}
use Rattle.lane.proofs.Joining.{look_empty, look_whole}
use Rattle.lane.proofs.seated.SeatedSender.look.Goals as goal

pub try_recv_as-requires-clause-rule : goal.try_recv_as-requires-clause-rule
try_recv_as-requires-clause-rule g c =
    let all = rw (sym c.self.view_is) at c.requires.full in
    (look_empty _ _ _ _ all.1, look_whole _ _ _ _ all.1)
