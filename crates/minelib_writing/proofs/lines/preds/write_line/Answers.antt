use Rattle.std.proofs.Common.{rules, drop, take}
use Rattle.minelib_lines.specs.Lines.{lines_from, text_of}
use Rattle.minelib_writing.specs.Written.{prec_line}
use Rattle.minelib_writing.proofs.SectionsWritten.{held_cut}
use Rattle.minelib_writing.proofs.lines.preds.write_line.Goals as goal

-- the appended line was cut off
pub returns-in_err-flush_full-clause-writes : goal.returns-in_err-flush_full-clause-writes
returns-in_err-flush_full-clause-writes g c =
    let lines = lines_from prec_line 0 (g.M.MadeLists.lists c.args.preds.now) in
    let cut = held_cut (text_of (take 1 (drop c.args.id lines))) c.in_ok-append_line.ensures.text c.in_err-flush_full.ensures.refused in
    search rules
