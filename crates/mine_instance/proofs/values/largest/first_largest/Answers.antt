use Rattle.std.proofs.Common.{arith, pos}
use Rattle.mine_instance.proofs.LargestFacts.{first_is}
use Rattle.mine_instance.proofs.values.largest.first_largest.Goals as goal

pub returns-clause-value : goal.returns-clause-value
returns-clause-value c =
    let found = c.loop-index.invariant in
    first_is c.args.numbers.now c.loop-index.best found.within (λ k h. found.less k (pos 0) h)
    (λ k h. found.most k (pos 0) (omega arith))
