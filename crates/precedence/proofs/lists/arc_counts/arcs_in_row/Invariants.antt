use Rattle.std.proofs.Common.{◌≡◌, ◌*◌, ◌-◌, ◌≤◌, length, take}
use Rattle.std.specs.Prelude.{sum_by}
use Rattle.precedence.specs.inner.Arcs.{count_in}
use Rattle.plan_parts.specs.declared.ranges.TheConstants.{MAX_BLOCKS}
use Rattle.precedence.proofs.lists.arc_counts.arcs_in_row.Given as goal

abbrev pub invariant-loop-k : goal.invariant-loop-k
invariant-loop-k l = record {
  within : l.k ≤ length l.own;
  count : l.arcs ≡ sum_by (count_in l.places.codes.items l.row) (take l.k l.own);
  low : l.arcs ≤ l.k * MAX_BLOCKS;
}

abbrev pub decreases-loop-k : goal.decreases-loop-k
decreases-loop-k l = length l.own - l.k
