use Rattle.std.proofs.Common.{◌≡◌, ◌∙◌, ℕ, List, [], ap, length, take, rules, arith, subst}
use Rattle.std.specs.Prelude.{sum_by}
use Rattle.std.proofs.lemmas.List.Sums.{sum_by_more}
use Rattle.std.proofs.lemmas.List.{take_all}
use Rattle.minelib_lines.specs.Lines.{lines_from, text_of}
use Rattle.minelib_writing.specs.Written.{prec_line}
use Rattle.devices.specs.sinks.Writes.{IsWrittenOn}
use Rattle.minelib_writing.proofs.LineFacts.{length-lines_from}
use Rattle.minelib_writing.proofs.SectionsWritten.{more_cut, more_then}
use Rattle.minelib_writing.proofs.lines.preds.write_counted.Goals as goal

-- the lines so far were written, the remainder was cut off, and so are all lines
pub returns-in_err-write_line-clause-writes : goal.returns-in_err-write_line-clause-writes
returns-in_err-write_line-clause-writes g c =
    let lines = lines_from prec_line 0 (g.M.MadeLists.lists c.args.preds.now) in
    let cut = more_cut lines _ 1 c.loop-id.invariant.written.appended (rw c.loop-id.invariant.kept at c.in_err-write_line.ensures.writes) in
    search rules

-- the lines before the block, and then its own
pub loop-id-preserved : goal.loop-id-preserved
loop-id-preserved g c =
    let lists = g.M.MadeLists.lists c.args.preds.now in
    let more = sum_by_more length lists c.loop-id.id [] (omega (arith, c.loop-id-test.true, c.count-id-end.ensures)) in
    let inv = c.loop-id.invariant in
    let written = rw inv.kept at c.in_ok-write_line.ensures.writes in
    let counted = rw inv.kept at c.in_ok-write_line.ensures.counted in
    let countable = rw inv.kept at c.in_ok-write_line.ensures.countable in
    record {
      kept = c.in_ok-write_line.ensures.kept ∙ inv.kept;
      written = more_then (lines_from prec_line 0 lists) c.loop-id.id 1 inv.written written;
      counted = omega (arith, more, inv.counted, counted);
      small = omega (arith, inv.small, counted, countable);
    }

pub write_line-requires-clause-block : goal.write_line-requires-clause-block
write_line-requires-clause-block g c =
    rw c.loop-id.invariant.kept (omega (arith, c.loop-id-test.true, c.count-id-end.ensures))

pub write_line-requires-clause-preds : goal.write_line-requires-clause-preds
write_line-requires-clause-preds g c =
    rw c.loop-id.invariant.kept (c.requires.preds c.loop-id.id [] (omega (arith, c.loop-id-test.true, c.count-id-end.ensures)))

pub write_line-requires-clause-room : goal.write_line-requires-clause-room
write_line-requires-clause-room g c =
    omega (arith, c.loop-id.invariant.small, c.loop-id-test.true, c.count-id-end.ensures, c.requires.few)

pub returns-clause-writes : goal.returns-clause-writes
returns-clause-writes g c =
    let lists = g.M.MadeLists.lists c.args.preds.now in
    let lines = lines_from prec_line 0 lists in
    let all : take c.loop-id.id lines ≡ lines =
    take_all c.loop-id.id lines (omega (arith, c.loop-id-test.false, c.count-id-end.ensures, length-lines_from prec_line 0 lists)) in
    subst (λ (ls : List (List ℕ)). IsWrittenOn (text_of ls) c.args.buffer.now.items c.loop-id.buffer.items
    (g.S.Sink.state c.args.sink.now) (g.S.Sink.state c.loop-id.sink)) all c.loop-id.invariant.written

pub returns-clause-counted : goal.returns-clause-counted
returns-clause-counted g c =
    let lists = g.M.MadeLists.lists c.args.preds.now in
    c.loop-id.invariant.counted ∙ ap (sum_by length) (take_all c.loop-id.id lists (omega (arith, c.loop-id-test.false, c.count-id-end.ensures)))
