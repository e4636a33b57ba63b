use Rattle.std.proofs.Common.{◌≡◌, ◌+◌, length, drop}
use Rattle.std.specs.Prelude.{sum_by}
use Rattle.precedence.specs.Cone.{positions_where}
use Rattle.precedence.specs.inner.Rows.{is_in_rows}
use Rattle.precedence.proofs.lists.arc_counts.arcs_in_rows.Given as goal

abbrev pub invariant-loop-row : goal.invariant-loop-row
invariant-loop-row l =
    l.arcs + sum_by (λ from. length (positions_where (is_in_rows from (drop l.row-index l.rows)) 0 l.places.codes.items)) l.own
    ≡ sum_by (λ from. length (positions_where (is_in_rows from l.rows) 0 l.places.codes.items)) l.own
