use Rattle.std.proofs.Common.{◌≡◌, Err, rules, subst}
use Rattle.pit_units.specs.OrMemory.{Gives}
use Rattle.minelib_reading.specs.PrecText.{finish_preds}
use Rattle.minelib_reading.proofs.encoded.EncodedRead.{preds_finished, preds_stopped}
use Rattle.minelib_reading.proofs.prec_reader.read_preds.Goals as goal

pub returns : goal.returns
returns c =
    let gives = Gives (λ lists. lists) c.finish.result in
    let d = c.read_lines.new.state in
    let end = c.in_ok-end.ensures.number in
    let whole = preds_finished c.args.blocks c.args.text.now d (search rules) in
    subst gives whole (subst (λ end. gives (finish_preds d.blocks end d.lists)) end c.finish.ensures)

pub returns-in_err-end : goal.returns-in_err-end
returns-in_err-end c =
    let same : c.from_residual.result ≡ Err c.in_err-end.field-0.0 = search rules in
    rw same (preds_stopped c.args.blocks c.args.text.now c.read_lines.new.state c.in_err-end.field-0.0
    (rw c.new-draft.ensures at c.in_err-end.ensures.read))
