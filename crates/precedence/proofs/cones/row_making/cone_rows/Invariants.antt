use Rattle.precedence.specs.inner.Rows.{edge, AreExactUpTo}
use Rattle.precedence.proofs.cones.row_making.cone_rows.Given as goal

abbrev pub invariant-loop-dz : goal.invariant-loop-dz
invariant-loop-dz l = AreExactUpTo l.grid l.cone l.extent (edge l.extent.rows l.dz 0) l.rows.items
