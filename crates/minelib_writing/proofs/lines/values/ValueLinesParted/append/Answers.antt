use Rattle.std.proofs.Common.{All}
use Rattle.pit_units.specs.DecimalRange.{IsInDecimalRange}
use Rattle.minelib_writing.specs.Written.{value_line}
use Rattle.minelib_writing.proofs.BlockLines.{block_kept, block_line}
use Rattle.minelib_writing.proofs.lines.values.ValueLinesParted.append.Goals as goal

pub returns-clause-appended : goal.returns-clause-appended
returns-clause-appended g c =
    rw (block_line value_line (g.V.ValueList.list c.args.self.now.values.now) c.args.index _ c.requires c.of_block.ensures) c.in_ok-append_values.ensures.text

pub returns-clause-kept : goal.returns-clause-kept
returns-clause-kept g c =
    block_kept value_line (g.V.ValueList.list c.args.self.now.values.now) c.args.index _ c.requires c.of_block.ensures
    (λ of_block. All IsInDecimalRange of_block) c.in_ok-append_values.ensures.kept
