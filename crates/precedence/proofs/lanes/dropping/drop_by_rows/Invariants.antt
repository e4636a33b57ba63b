use Rattle.std.proofs.Common.{◌≤◌, ◌-◌, length}
use Rattle.precedence.specs.inner.lanes.Windows.{Drops}
use Rattle.precedence.proofs.bits.Dropping.{Among}
use Rattle.precedence.proofs.bits.RowsMet.{MeetsRow}
use Rattle.precedence.proofs.lanes.dropping.drop_by_rows.Given as goal

abbrev pub invariant-loop-number : goal.invariant-loop-number
invariant-loop-number l = record {
  from : l.row ≤ l.number;
  within : l.number ≤ length l.rows;
  drops : Drops (Among (MeetsRow l.strip l.table.rows.items l.most) l.row l.number) l.lanes l.rest;
}

abbrev pub decreases-loop-number : goal.decreases-loop-number
decreases-loop-number l = length l.rows - l.number
