use Rattle.std.proofs.Common.{◌≡◌, ◌-◌, ◌≤◌, ◌^◌, length}
use Rattle.precedence.specs.inner.lanes.Windows.{scene, Sees}
use Rattle.precedence.specs.inner.Between.{tables_in}
use Rattle.precedence.proofs.lanes.looking.look.Given as goal

abbrev pub invariant-loop-strip : goal.invariant-loop-strip
invariant-loop-strip l = record {
  small : l.at ≤ 10 ^ 15;
  tables : length l.sight.by_table.items ≡ length (tables_in l.cones);
  sees : Sees (scene l.cones) l.table.rows.items l.base l.at l.sight;
}

abbrev pub decreases-loop-strip : goal.decreases-loop-strip
decreases-loop-strip l = 10 ^ 15 - l.at
