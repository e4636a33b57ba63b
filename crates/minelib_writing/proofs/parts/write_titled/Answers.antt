use Rattle.std.proofs.Common.{rules}
use Rattle.minelib_writing.proofs.SectionsWritten.{line_cut}
use Rattle.minelib_writing.proofs.parts.write_titled.Goals as goal

-- the section line was cut off, and so are the lines under it
pub returns-in_err-flush_full-clause-writes : goal.returns-in_err-flush_full-clause-writes
returns-in_err-flush_full-clause-writes g c =
    let cut = line_cut c.args.title.now (g.L.Parted.lines c.args.parted.now) c.in_ok-append_text.ensures c.in_err-flush_full.ensures.refused in
    search rules
