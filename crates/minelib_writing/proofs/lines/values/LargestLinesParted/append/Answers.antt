use Rattle.std.proofs.Common.{[]}
use Rattle.mine_instance.specs.Largest.{largest}
use Rattle.pit_units.specs.DecimalRange.{IsInDecimalRange}
use Rattle.minelib_writing.specs.Written.{largest_line}
use Rattle.minelib_writing.proofs.BlockLines.{block_kept, block_line, block_within}
use Rattle.minelib_writing.proofs.lines.values.LargestLinesParted.append.Goals as goal

pub append_largest-requires : goal.append_largest-requires
append_largest-requires g c =
    let values = g.V.ValueList.list c.args.self.now.values.now in
    rw c.of_block.ensures (c.args.self.now.some c.args.index [] (block_within largest_line values c.args.index _ c.requires c.of_block.ensures))

pub returns-clause-appended : goal.returns-clause-appended
returns-clause-appended g c =
    rw (block_line largest_line (g.V.ValueList.list c.args.self.now.values.now) c.args.index _ c.requires c.of_block.ensures)
    c.in_ok-append_largest.ensures.text

pub returns-clause-kept : goal.returns-clause-kept
returns-clause-kept g c =
    block_kept largest_line (g.V.ValueList.list c.args.self.now.values.now) c.args.index _ c.requires c.of_block.ensures
    (λ of_block. IsInDecimalRange (largest of_block)) c.in_ok-append_largest.ensures.kept
