use Rattle.std.proofs.Common.{sym}
use Rattle.precedence.proofs.Reaches.{counts_all}
use Rattle.precedence.proofs.cones.counting.lowered.Goals as goal

pub returns-else-not-is_in_reach-clause-counts : goal.returns-else-not-is_in_reach-clause-counts
returns-else-not-is_in_reach-clause-counts c =
    counts_all c.args.reach c.loop-count.count c.loop-count.invariant.enough (λ _. sym c.if-not-is_in_reach.ensures)
