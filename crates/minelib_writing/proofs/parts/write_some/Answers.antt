use Rattle.std.proofs.Common.{rules, drop}
use Rattle.minelib_writing.proofs.PartsWritten.{prefix_cut}
use Rattle.minelib_writing.proofs.parts.write_some.Goals as goal

-- the appended parts were cut off, and so are all parts
pub returns-in_err-flush_full-clause-refused : goal.returns-in_err-flush_full-clause-refused
returns-in_err-flush_full-clause-refused g c =
    let parts = drop c.args.index (g.L.Parted.parts c.args.parted.now) in
    let cut = prefix_cut parts c.in_ok-count.count c.in_ok-count.ensures.appended c.in_err-flush_full.ensures.refused in
    search rules
