use Rattle.std.proofs.Common.{sym, ap, ◌∙◌, refl, map, rules}
use Rattle.std.specs.Vec.Iter.{into_iter_items}
use Rattle.lane.specs.Ends.{TakeEndView}
use Rattle.lane.specs.EndFields.{SeatView}
use Rattle.lane.proofs.Joining.{gather_begin, gather_more, gather_done, nothing_remains, one_less}
use Rattle.lane.proofs.closer.join_takes.Goals as goal

pub loop-take-init : goal.loop-take-init
loop-take-init c = (
  refl,
  rw c.into_iter-take-iterator.ensures.into_iter_gives.0
      (gather_begin _ _ c.args.seat.now.lane _ _ c.requires.stopped c.requires.takes c.requires.done),
  search rules,
)

pub loop-take-preserved : goal.loop-take-preserved
loop-take-preserved c =
    let loop = c.loop-take in
    let steps = c.in-Some.ensures.steps in
    let joined = rw loop.invariant.0 at (ap (λ (s : SeatView). s.known) c.join.ensures.joined) in (
      ap (λ (s : SeatView). s.lane) c.join.ensures.joined ∙ loop.invariant.0,
      gather_more _ _ _ _ _ _ c.in-Some.take _ (rw steps.0 at loop.invariant.1) joined,
      one_less _ _ c.in-Some.take _ _ loop.invariant.2 steps.0 (sym steps.1),
    )

pub returns : goal.returns
returns c =
    let loop = c.loop-take in
    let none = nothing_remains (into_iter_items loop.take-iterator) (sym loop.invariant.2 ∙ c.in-None.ensures.steps.0) in
    let all = gather_done _ c.args.seat.now.lane _ _ _ (rw none at loop.invariant.1) refl c.requires.stopped.some_taker in
    record {
      lane = loop.invariant.0;
      full = all.0;
      sent = all.1;
      took = all.2 ∙ ap (map (λ (t : TakeEndView). t.took)) c.into_iter-take-iterator.ensures.into_iter_gives.0;
    }
