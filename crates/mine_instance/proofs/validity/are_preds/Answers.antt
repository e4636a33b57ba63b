use Rattle.std.proofs.Common.{[], arith, refl, sym, below_more}
use Rattle.std.proofs.lemmas.Option.{get_or_from_slice_get}
use Rattle.mine_instance.proofs.PairFacts.{one_refused}
use Rattle.mine_instance.proofs.validity.are_preds.Goals as goal

pub returns-then-not-are_preds_of : goal.returns-then-not-are_preds_of
returns-then-not-are_preds_of c = (
  λ f. absurd (cc),
  one_refused _ _ _ _ _ (omega arith) (sym (get_or_from_slice_get c.args.preds.now c.loop-id.id c.of.result.now [] c.of.ensures))
      c.are_preds_of.ensures.1 c.if-not-are_preds_of.true,
)

pub loop-id-preserved : goal.loop-id-preserved
loop-id-preserved c =
    below_more _ _ c.loop-id.invariant
    (rw (get_or_from_slice_get c.args.preds.now c.loop-id.id c.of.result.now [] c.of.ensures)
    (c.are_preds_of.ensures.0 c.if-not-are_preds_of.false))

pub returns : goal.returns
returns c = (λ t i h. c.loop-id.invariant i (omega arith), λ t. refl)
