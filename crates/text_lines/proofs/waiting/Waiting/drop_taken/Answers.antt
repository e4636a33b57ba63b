use Rattle.std.proofs.Common.{◌≡◌, ◌+◌, ◌-◌, length, take, drop, sym, ap, ◌∙◌, arith, length-drop, length-take-le}
use lib.Seq.{paste}
use Rattle.std.proofs.lemmas.List.{drop-take}
use Rattle.std.proofs.lemmas.List.Edits.{take-paste}
use Rattle.text_lines.specs.inner.Waiting.{WaitingView}
use Rattle.text_lines.proofs.waiting.Waiting.drop_taken.Goals as goal

pub returns-clause-held : goal.returns-clause-held
returns-clause-held c =
    let all = c.self.inside.bytes.items in
    let len = c.self.inside.filled in
    let from = c.args.count in
    let size : length c.args.self.now.held ≡ len =
    ap (λ (w : WaitingView). length w.held) (sym c.self.view_is) ∙ length-take-le len all (omega (arith, c.self.invariant, c.self.inside.bytes.ok.0)) in
    let same : len - from ≡ 0 + (len - from) = omega arith in
    let whole : from + (len - from) ≡ len = omega (arith, c.requires, size) in
    ap (take (len - from)) c.copy_within.ensures.items ∙ ap (λ k. take k (paste all 0 (drop from all) (len - from))) same
    ∙ take-paste all 0 (drop from all) (len - from) (omega arith) (omega (arith, c.self.invariant, c.self.inside.bytes.ok.0, length-drop from all))
    ∙ sym (drop-take from (len - from) all) ∙ ap (λ k. drop from (take k all)) whole ∙ ap (λ (w : WaitingView). drop from w.held) c.self.view_is
