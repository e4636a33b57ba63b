use Rattle.std.proofs.Common.{◌≤◌, ◌-◌}
use Rattle.precedence.proofs.lanes.covering.first_seen.Given as goal

abbrev pub invariant-loop-at : goal.invariant-loop-at
invariant-loop-at l = l.at ≤ l.strip.len

abbrev pub decreases-loop-at : goal.decreases-loop-at
decreases-loop-at l = l.strip.len - l.at
