use Rattle.std.proofs.Common.{rules}
use Rattle.std.proofs.lemmas.List.Sorted.{answers_always}
use Rattle.mine_instance.proofs.PairFacts.{rises_decided}
use Rattle.mine_instance.proofs.rising.rises.Goals as goal

pub returns : goal.returns
returns g c =
    rises_decided g.T.Ordered.before _ _ c.is_transitive.ensures
    (c.is_sorted_by.ensures.cases g.T.Ordered.before (answers_always _ _ _ (λ f a r g k. search rules)))
