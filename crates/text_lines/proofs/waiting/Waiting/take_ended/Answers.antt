use Rattle.std.proofs.Common.{◌≡◌, ◌<◌, ◌≤◌, Err, List, length, take, subst, arith, rules}
use Rattle.text_lines.specs.inner.Waiting.{AreWholeLines}
use Rattle.text_lines.proofs.FedSteps.{refused, took}
use Rattle.text_lines.proofs.waiting.Waiting.take_ended.Goals as goal

pub returns-in_err-next-clause-takes : goal.returns-in_err-next-clause-takes
returns-in_err-next-clause-takes g c =
    let count = c.lines_end-whole.result in
    let some : 0 < count = omega (arith, c.if-whole-eq0.false) in
    let whole : AreWholeLines (take count c.args.self.now.held) =
    subst (λ held. AreWholeLines (take count held)) c.held.ensures (c.lines_end-whole.ensures.whole some) in
    let same : c.from_residual.result ≡ Err c.in_err-next.field-0.0 = search rules in
    rw same (refused g.S.Admit.admit_line c.args.state.now c.read_leading.new.state c.args.self.now c.args.self.now count c.in_err-next.field-0.0 whole
    c.in_err-next.ensures.read)

pub returns-clause-takes : goal.returns-clause-takes
returns-clause-takes g c =
    let count = c.lines_end-whole.result in
    let some : 0 < count = omega (arith, c.if-whole-eq0.false) in
    let whole : AreWholeLines (take count c.args.self.now.held) =
    subst (λ held. AreWholeLines (take count held)) c.held.ensures (c.lines_end-whole.ensures.whole some) in
    let within : count ≤ length c.args.self.now.held =
    subst (λ (held : List _). count ≤ length held) c.held.ensures c.lines_end-whole.ensures.within in
    took g.S.Admit.admit_line c.args.state.now c.read_leading.new.state c.args.self.now c.drop_taken.new.self count within whole
    c.in_ok-next.ensures.read (search rules) c.drop_taken.ensures.begun c.drop_taken.ensures.held
