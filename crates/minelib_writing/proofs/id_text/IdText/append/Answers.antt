use Rattle.minelib_writing.proofs.RangeCounts.{range_below}
use Rattle.minelib_writing.proofs.id_text.IdText.append.Goals as goal

pub append_range-requires : goal.append_range-requires
append_range-requires c =
    range_below c.args.self.now c.args.ranges.now c.loop-range.range-index c.range-item.result c.loop-range-test.true c.range-item.is c.requires
