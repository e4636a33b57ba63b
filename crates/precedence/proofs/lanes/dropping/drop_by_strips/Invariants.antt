use Rattle.std.proofs.Common.{◌-◌, length}
use Rattle.precedence.specs.inner.lanes.Windows.{Drops, MeetsAt}
use Rattle.precedence.proofs.bits.Dropping.{Among}
use Rattle.precedence.proofs.lanes.dropping.drop_by_strips.Given as goal

abbrev pub invariant-loop-k : goal.invariant-loop-k
invariant-loop-k l = Drops (Among (MeetsAt l.strips.strips.items l.table.rows.items l.distance) 0 l.k) l.lanes l.rest

abbrev pub decreases-loop-k : goal.decreases-loop-k
decreases-loop-k l = length l.starts - l.k
