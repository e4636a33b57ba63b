use Rattle.std.proofs.Common.{rules, append_assoc, length}
use Rattle.std.specs.Prelude.{decimal}
use Rattle.precedence.specs.IdRanges.{ids_of}
use Rattle.minelib_writing.proofs.LineFacts.{line_of-map}
use Rattle.minelib_writing.proofs.lines.preds.append_preds.Goals as goal

pub returns-clause-text : goal.returns-clause-text
returns-clause-text c =
    let ids = ids_of c.args.ranges.now in
    rw (line_of-map (decimal (length ids)) decimal ids) (search (rules, append_assoc))
