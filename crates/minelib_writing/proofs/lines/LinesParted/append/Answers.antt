use Rattle.std.proofs.Common.{◌<◌, length}
use Rattle.std.specs.Prelude.{HoldsAt}
use Rattle.minelib_writing.proofs.KeptFacts.{holds_one, kept_at}
use Rattle.minelib_writing.proofs.LineFacts.{line_parts_count, line_part}
use Rattle.minelib_writing.proofs.lines.LinesParted.append.Goals as goal

pub returns-clause-appended : goal.returns-clause-appended
returns-clause-appended g c =
    let items = c.args.self.now.items.now in
    let within : c.args.index < length items = rw line_parts_count at c.requires in
    rw (line_part g.T.Line.fields c.args.index items c.item_of_line.result.now within c.item_of_line.ensures) c.in_ok-append.ensures.text

pub returns-clause-kept : goal.returns-clause-kept
returns-clause-kept g c =
    let items = c.args.self.now.items.now in
    let within : c.args.index < length items = rw line_parts_count at c.requires in
    holds_one (HoldsAt g.T.Line.kept items) c.args.index
    (kept_at g.T.Line.kept items c.args.index c.item_of_line.result.now within c.item_of_line.ensures c.in_ok-append.ensures.kept)
