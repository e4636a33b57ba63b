use Rattle.std.proofs.Common.{rules, ◌+◌, arith}
use Rattle.minelib_writing.proofs.KeptFacts.{holds_then}
use Rattle.minelib_writing.proofs.PartsWritten.{parts_then, rest_cut}
use Rattle.minelib_writing.proofs.parts.write_parts.Goals as goal

-- the parts so far were written, the remainder was cut off, and so are all parts
pub returns-in_err-count-clause-writes : goal.returns-in_err-count-clause-writes
returns-in_err-count-clause-writes g c =
    let parts = g.L.Parted.parts c.args.parted.now in
    let cut = rw g.met.L.Parted.whole at (rest_cut parts _ c.loop-index.invariant.written.appended c.in_err-count.ensures.refused) in
    search rules

-- the parts before the index, and then some more
pub loop-index-preserved : goal.loop-index-preserved
loop-index-preserved g c =
    let parts = g.L.Parted.parts c.args.parted.now in
    let index = c.loop-index.index in
    record {
      within = c.in_ok-count.ensures.within;
      written = parts_then parts index c.in_ok-count.count c.loop-index.invariant.written c.in_ok-count.ensures.written;
      kept = holds_then 0 index (index + c.in_ok-count.count) c.loop-index.invariant.kept c.in_ok-count.ensures.kept;
    }

pub returns-clause-kept : goal.returns-clause-kept
returns-clause-kept g c place low high = c.loop-index.invariant.kept place low (omega arith)
