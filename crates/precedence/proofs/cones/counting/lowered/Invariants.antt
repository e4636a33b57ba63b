use Rattle.std.proofs.Common.{◌≡◌, ◌<◌, ◌≤◌, false}
use Rattle.precedence.specs.inner.Reach.{is_in_reach}
use Rattle.precedence.proofs.cones.counting.lowered.Given as goal

abbrev pub invariant-loop-count : goal.invariant-loop-count
invariant-loop-count l = record {
  few : l.count ≤ 10000;
  enough : l.count < 10000 → is_in_reach l.count l.reach ≡ false;
}

abbrev pub decreases-loop-count : goal.decreases-loop-count
decreases-loop-count l = l.count
