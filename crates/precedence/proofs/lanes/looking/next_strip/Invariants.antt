use Rattle.std.proofs.Common.{◌-◌, ◌≤◌, ◌^◌}
use Rattle.precedence.specs.inner.lanes.Windows.{scene}
use Rattle.precedence.specs.inner.lanes.Looking.{HasNone}
use Rattle.precedence.proofs.lanes.looking.next_strip.Given as goal

abbrev pub invariant-loop-row : goal.invariant-loop-row
invariant-loop-row l = record {
  later : l.fn.at ≤ l.at;
  small : l.at ≤ 10 ^ 15;
  passed : HasNone (scene l.cones) l.table.rows.items l.base l.fn.at l.at;
}

abbrev pub decreases-loop-row : goal.decreases-loop-row
decreases-loop-row l = 10 ^ 15 - l.at
