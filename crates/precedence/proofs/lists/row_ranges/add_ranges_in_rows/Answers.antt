use Rattle.std.proofs.Common.{◌≤◌, length, get_or, ap, arith, append_assoc, append-nil}
use Rattle.std.proofs.lemmas.List.{drop_all}
use Rattle.precedence.proofs.ranges.Outside.{in_no_rows}
use Rattle.precedence.proofs.ranges.RowOfCode.{long}
use Rattle.precedence.proofs.ranges.RangesOfRows.{adds_range, no_rows, pasts_rise}
use Rattle.precedence.proofs.lists.row_ranges.add_ranges_in_rows.Goals as goal

pub next_row-i-requires-clause-rising : goal.next_row-i-requires-clause-rising
next_row-i-requires-clause-rising g c =
    rw c.requires.past (pasts_rise 0 c.args.rows.now c.requires.in_order.0 c.requires.in_order.1)

pub loop-i-preserved : goal.loop-i-preserved
loop-i-preserved g c =
    let rows = c.args.rows.now in
    let inside : c.next_row-i.result ≤ length rows =
    omega (arith, c.next_row-i.ensures.within, ap length c.requires.past, long rows) in
    let codes = c.args.places.now.codes.items in
    let widths = c.args.widths.now in
    let after = c.id_after-after in
    let adds = adds_range c.args.from c.requires.in_order.0 rows codes c.requires.in_order.1
    c.args.places.now.rising c.loop-i.i c.next_row-i.result after.result.id c.index-rows-i.result
    c.index-rows-i.is c.loop-i-test.true c.next_row-i.ensures.later inside
    (omega (arith, c.in_ok-range.ensures.past, after.ensures.later))
    (λ k le lt _. in_no_rows widths.west widths.east c.args.from (get_or codes k 0) rows c.requires.widths
    (λ row wide. after.ensures.outside row k wide (omega (arith, c.in_ok-range.ensures.past, le)) lt))
    (rw c.requires.past at c.next_row-i.ensures.skipped) in
    record {
      within = inside;
      list = rw (c.in_ok-range.ensures.range, append_assoc, ← adds) c.loop-i.invariant.list;
    }

pub returns : goal.returns
returns g c =
    rw (drop_all c.loop-i.i c.args.rows.now c.loop-i-test.false, no_rows c.args.from 0 c.args.places.now.codes.items, append-nil)
    at c.loop-i.invariant.list
