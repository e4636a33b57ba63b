use Rattle.std.proofs.Common.{◌≤◌, ◌-◌}
use Rattle.precedence.proofs.bits.Gathered.{Gathers}
use Rattle.precedence.proofs.lanes.bits.gathered.Given as goal

abbrev pub invariant-loop-done : goal.invariant-loop-done
invariant-loop-done l = record {
  some : 1 ≤ l.done;
  within : l.done ≤ l.len;
  gathers : Gathers l.word l.first l.done l.seen;
}

abbrev pub decreases-loop-done : goal.decreases-loop-done
decreases-loop-done l = l.len - l.done
