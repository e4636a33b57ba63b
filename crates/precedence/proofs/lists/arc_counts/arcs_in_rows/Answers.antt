use Rattle.std.proofs.Common.{◌≡◌, ◌+◌, ℕ, List, length, drop, get_or, ap, ◌∙◌, arith}
use Rattle.std.specs.Prelude.{sum_by}
use Rattle.std.proofs.lemmas.List.{drop_all}
use Rattle.std.proofs.lemmas.List.Sums.{sum_by-le}
use Rattle.plan_parts.specs.declared.ranges.TheConstants.{MAX_BLOCKS}
use Rattle.precedence.specs.Cone.{positions_where}
use Rattle.precedence.specs.inner.Arcs.{count_in}
use Rattle.precedence.specs.inner.Rows.{is_in_rows}
use Rattle.precedence.specs.declared.cones.cone_rows.Row.{Row}
use Rattle.precedence.proofs.Arcs.{row_more, sum_both, sum_none}
use Rattle.precedence.proofs.PositionsWhere.{length-positions_where}
use Rattle.precedence.proofs.ranges.RangesOfRows.{no_rows}
use Rattle.precedence.proofs.lists.arc_counts.arcs_in_rows.Goals as goal

abbrev ids_in_rows : List ℕ → List Row → ℕ → ℕ
ids_in_rows codes rows from = length (positions_where (is_in_rows from rows) 0 codes)

-- the number in the rows from one on is the number in that row and in the rows after it
one_more : (c : goal.After-arcs_in_row-arcs) → sum_by (ids_in_rows c.args.places.now.codes.items (drop c.loop-row.row-index c.args.rows.now)) c.args.own.now
    ≡ sum_by (count_in c.args.places.now.codes.items c.row-item.result) c.args.own.now
    + sum_by (ids_in_rows c.args.places.now.codes.items (drop (c.loop-row.row-index + 1) c.args.rows.now)) c.args.own.now
one_more c =
    let rows = c.args.rows.now in
    sum_both _ _ _ c.args.own.now (row_more c.args.places.now.codes.items rows c.requires.in_order.0 c.loop-row.row-index c.row-item.result
    c.args.places.now.rising c.requires.in_order.1 c.loop-row-test.true c.row-item.is)

pub overflow_add-arcs : goal.overflow_add-arcs
overflow_add-arcs c =
    let codes = c.args.places.now.codes.items in
    let rows = c.args.rows.now in
    let few = sum_by-le (ids_in_rows codes rows) MAX_BLOCKS c.args.own.now
    (λ k d lt. omega (arith, length-positions_where (is_in_rows (get_or c.args.own.now k d) rows) 0 codes, c.args.places.now.few)) in
    omega (arith, one_more c, few, c.loop-row.invariant, c.arcs_in_row-arcs.ensures, c.requires.few, c.args.places.now.few)

pub loop-row-preserved : goal.loop-row-preserved
loop-row-preserved c = omega (arith, one_more c, c.loop-row.invariant, c.arcs_in_row-arcs.ensures)

pub returns : goal.returns
returns c =
    let codes = c.args.places.now.codes.items in
    let rows = c.args.rows.now in
    let i = c.loop-row.row-index in
    let none = sum_none (ids_in_rows codes (drop i rows)) c.args.own.now (λ from.
    ap (λ rs. ids_in_rows codes rs from) (drop_all i rows (omega (arith, c.loop-row-test.false))) ∙ ap length (no_rows from 0 codes)) in
    omega (arith, none, c.loop-row.invariant)
