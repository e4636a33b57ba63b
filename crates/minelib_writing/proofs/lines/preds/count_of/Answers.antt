use Rattle.std.proofs.Common.{◌+◌, arith}
use Rattle.minelib_writing.proofs.RangeCounts.{count_more, count_within}
use Rattle.minelib_writing.proofs.lines.preds.count_of.Goals as goal

pub overflow_add-count : goal.overflow_add-count
overflow_add-count c =
    let ranges = c.args.ranges.now in
    let i = c.loop-range.range-index in
    omega (
      arith,
      c.requires,
      c.loop-range.invariant,
      c.from-count.ensures,
      count_more ranges i c.range-item.result c.loop-range-test.true c.range-item.is,
      count_within ranges (i + 1),
    )

pub loop-range-preserved : goal.loop-range-preserved
loop-range-preserved c =
    let more = count_more c.args.ranges.now c.loop-range.range-index c.range-item.result c.loop-range-test.true c.range-item.is in
    omega (arith, c.loop-range.invariant, c.from-count.ensures, more)
