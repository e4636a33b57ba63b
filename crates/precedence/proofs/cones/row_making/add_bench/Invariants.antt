use Rattle.precedence.specs.inner.Rows.{edge, AreExactUpTo}
use Rattle.precedence.proofs.cones.row_making.add_bench.Given as goal

abbrev pub invariant-loop-i : goal.invariant-loop-i
invariant-loop-i l = AreExactUpTo l.grid l.cone l.extent (edge l.extent.rows l.dz l.i) l.rows.items
