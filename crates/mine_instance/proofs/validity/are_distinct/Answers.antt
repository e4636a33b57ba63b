use Rattle.mine_instance.proofs.PairFacts.{decided_differ}
use Rattle.mine_instance.proofs.validity.are_distinct.Goals as goal

pub returns-then-rises : goal.returns-then-rises
returns-then-rises c = (λ yes. decided_differ c.args.ids.now (c.rises.ensures.0 yes), λ all. c.if-rises.true)
