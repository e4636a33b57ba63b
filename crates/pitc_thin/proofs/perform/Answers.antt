use Rattle.std.proofs.Common.{inl}
use Rattle.std.proofs.lemmas.Result.{IfErr-weaker, IfOk-weaker}
use Rattle.pitc_thin.proofs.perform.Goals as goal

pub returns-in-Ok-clause-done : goal.returns-in-Ok-clause-done
returns-in-Ok-clause-done g c =
    IfOk-weaker c.thin_from.result _ _
    (λ ended ends. inl (c.in-Ok.run', c.in-Ok.ensures.accepted, c.in-Ok.ensures.stated, ends)) c.thin_from.ensures.ends

pub returns-in-Ok-clause-undone : goal.returns-in-Ok-clause-undone
returns-in-Ok-clause-undone g c =
    IfErr-weaker c.thin_from.result _ _
    (λ refused unread. inl (c.in-Ok.run', c.in-Ok.ensures.accepted, c.in-Ok.ensures.stated, unread)) c.thin_from.ensures.unread
