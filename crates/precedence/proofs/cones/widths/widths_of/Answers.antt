use Rattle.std.proofs.Common.{◌≡◌, ◌≤◌, get_or, sym, ap, ◌∙◌, arith, ⊎_elim}
use Rattle.std.proofs.lemmas.Bool.{cases_lt}
use Rattle.std.proofs.lemmas.List.{get_or_default}
use Rattle.precedence.proofs.cones.widths.widths_of.Goals as goal

pub loop-row-preserved : goal.loop-row-preserved
loop-row-preserved c = λ k d lt.
    let rows = c.args.rows.now in
    let i = c.loop-row.row-index in
    let row = c.row-item.result in
    ⊎_elim
    (λ before.
    let had = c.loop-row.invariant k d before in
    record {
      first = omega (arith, had.first, c.greater-west.ensures.one);
      past = omega (arith, had.past, c.greater-east.ensures.one);
    })
    (λ (last : i ≤ k).
    let same : k ≡ i = omega arith in
    let here : get_or rows k d ≡ row =
    ap (λ n. get_or rows n d) same ∙ get_or_default rows i d row c.loop-row-test.true ∙ sym c.row-item.is in
    rw here (record {
      first = omega (arith, c.middle_of-middle.ensures, c.saturating_sub.ensures, c.greater-west.ensures.other);
      past = omega (arith, c.middle_of-middle.ensures, c.saturating_sub-in-loop-row.ensures, c.greater-east.ensures.other);
    }))
    (cases_lt k i)
