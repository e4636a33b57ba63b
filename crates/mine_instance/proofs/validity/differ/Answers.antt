use Rattle.std.proofs.Common.{get_or}
use Rattle.std.proofs.lemmas.List.{get_or_default}
use Rattle.mine_instance.proofs.PairFacts.{repeat_refused, distinct_more}
use Rattle.mine_instance.proofs.validity.differ.Goals as goal

pub returns-then-not-is_new : goal.returns-then-not-is_new
returns-then-not-is_new c = (
  λ f. absurd (cc),
  repeat_refused c.args.ids.now c.loop-index.index (get_or c.args.ids.now c.loop-index.index 0) c.is_new.result
      c.loop-index-test.true (get_or_default _ _ _ _ c.loop-index-test.true)
      (rw c.split_at.ensures.front at c.is_new.ensures.1) c.if-not-is_new.true,
)

pub loop-index-preserved : goal.loop-index-preserved
loop-index-preserved c =
    distinct_more c.args.ids.now c.loop-index.index (get_or c.args.ids.now c.loop-index.index 0)
    c.loop-index-test.true (get_or_default _ _ _ _ c.loop-index-test.true)
    (rw c.split_at.ensures.front at (c.is_new.ensures.0 c.if-not-is_new.false)) c.loop-index.invariant
