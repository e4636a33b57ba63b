use Rattle.std.proofs.Common.{length, ◌+◌, ◌-◌}
use Rattle.precedence.proofs.lanes.benches.add_bench.Given as goal

abbrev pub decreases-loop-benches : goal.decreases-loop-benches
decreases-loop-benches l = l.bench + 1 - length l.benches.items
