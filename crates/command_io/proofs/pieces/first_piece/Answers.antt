use Rattle.std.proofs.Common.{◌≡◌, ◌+◌, ◌-◌, ◌≤◌, length, sym, ◌∙◌, arith}
use Rattle.std.proofs.lemmas.List.{take_rest, length-drop}
use Rattle.command_io.proofs.Walk.{uncut_on}
use Rattle.command_io.proofs.pieces.first_piece.Goals as goal

pub loop-at-preserved : goal.loop-at-preserved
loop-at-preserved c =
    let text = c.args.text.now in
    let at = c.loop-at.at in
    let n = c.first_line_len.result in
    let line = rw (take_rest text at) at c.first_line_len.ensures.line in
    let fits = rw (take_rest text at, length-drop at text) at c.first_line_len.ensures.within in
    let within : at + n ≤ length text = omega arith in
    let same : at + n - at ≡ n = omega arith in
    let test = rw same at c.is_cut_line.ensures in
    uncut_on text at n within line (sym test ∙ c.if-is_cut_line.false) c.loop-at.invariant
