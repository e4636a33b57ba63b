use Rattle.std.proofs.Common.{sym, ap, ◌∙◌, ◌≤◌, arith}
use Rattle.lane.specs.EndFields.{SeatView}
use Rattle.lane.proofs.Joining.{join_more, one_less}
use Rattle.lane.proofs.closer.join_puts.Goals as goal

pub loop-put-preserved : goal.loop-put-preserved
loop-put-preserved c =
    let loop = c.loop-put in
    let steps = c.in-Some.ensures.steps in
    let joined = rw loop.invariant.0 at (ap (λ (s : SeatView). s.known) c.join.ensures.joined) in
    let few : c.from-rows.result ≤ 1000000 = omega (arith, c.from-rows.ensures, c.join.ensures.few) in (
      ap (λ (s : SeatView). s.lane) c.join.ensures.joined ∙ loop.invariant.0,
      join_more _ _ _ _ _ c.in-Some.put _ _ _ (rw steps.0 at loop.invariant.1) joined c.join.ensures.ended
          (c.from-rows.ensures ∙ c.join.ensures.rows) few,
      one_less _ _ c.in-Some.put _ _ loop.invariant.2 steps.0 (sym steps.1),
    )
