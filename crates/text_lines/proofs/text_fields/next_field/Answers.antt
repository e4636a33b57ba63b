use Rattle.std.proofs.Common.{◌<◌, ◌≤◌, ◌∙◌, length, sym, arith}
use Rattle.std.proofs.lemmas.List.{length-drop}
use Rattle.text_lines.proofs.Cuts.{after_blanks, no_fields}
use Rattle.text_lines.proofs.text_fields.next_field.Goals as goal

pub returns-then-is_empty-clause-cut : goal.returns-then-is_empty-clause-cut
returns-then-is_empty-clause-cut c =
    let t = c.without_leading_blanks-text in
    sym (after_blanks c.args.line.now).same ∙ rw (← t.ensures) (no_fields t.result.now (grind arith))

pub returns-clause-cut : goal.returns-clause-cut
returns-clause-cut c =
    let t = c.without_leading_blanks-text in
    let some : 0 < length t.result.now = grind arith in
    let field = (after_blanks c.args.line.now).starts (rw (← t.ensures) some) in
    sym (after_blanks c.args.line.now).same ∙ rw (c.after.ensures, c.field_end-end.ensures.value, t.ensures) (field.0)

pub returns-clause-less : goal.returns-clause-less
returns-clause-less c =
    let t = c.without_leading_blanks-text in
    let some : 0 < length t.result.now = grind arith in
    let field = (after_blanks c.args.line.now).starts (rw (← t.ensures) some) in
    let positive : 0 < c.field_end-end.result = rw (c.field_end-end.ensures.value, t.ensures) (field.1) in
    let within : length t.result.now ≤ length c.args.line.now = rw t.ensures (after_blanks c.args.line.now).short in
    rw (c.after.ensures, length-drop c.field_end-end.result t.result.now) (omega (arith, positive, some, within))
