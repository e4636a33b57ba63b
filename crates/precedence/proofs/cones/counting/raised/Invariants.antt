use Rattle.std.proofs.Common.{◌-◌, ◌≤◌}
use Rattle.precedence.proofs.cones.counting.raised.Given as goal

abbrev pub invariant-loop-count : goal.invariant-loop-count
invariant-loop-count l = l.count ≤ 10000

abbrev pub decreases-loop-count : goal.decreases-loop-count
decreases-loop-count l = 10000 - l.count
