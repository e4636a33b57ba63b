use Rattle.std.proofs.Common.{◌≡◌, ◌≤◌, ◌-◌, ◌++◌, length, drop}
use Rattle.precedence.specs.Cone.{positions_where}
use Rattle.precedence.specs.IdRanges.{ids_of}
use Rattle.precedence.specs.inner.Rows.{is_in_rows}
use Rattle.precedence.proofs.lists.row_ranges.add_ranges_in_rows.Given as goal

abbrev pub invariant-loop-i : goal.invariant-loop-i
invariant-loop-i g l = record {
  within : l.i ≤ length l.rows;
  list : ids_of l.ranges.items ++ positions_where (is_in_rows l.from (drop l.i l.rows)) 0 l.places.codes.items
      ≡ ids_of l.initial.ranges.items ++ positions_where (is_in_rows l.from l.rows) 0 l.places.codes.items;
}

abbrev pub decreases-loop-i : goal.decreases-loop-i
decreases-loop-i g l = length l.rows - l.i
