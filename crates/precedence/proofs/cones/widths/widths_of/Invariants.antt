use Rattle.std.proofs.Common.{ℕ, ◌<◌, get_or}
use Rattle.precedence.specs.inner.Outside.{IsNoWider}
use Rattle.precedence.specs.declared.cones.cone_rows.Row.{Row}
use Rattle.precedence.proofs.cones.widths.widths_of.Given as goal

abbrev pub invariant-loop-row : goal.invariant-loop-row
invariant-loop-row l = (k : ℕ) (d : Row) → k < l.row-index → IsNoWider l.west l.east (get_or l.rows k d)
