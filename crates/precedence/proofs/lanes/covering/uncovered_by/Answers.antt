use Rattle.std.proofs.Common.{◌≡◌, ◌+◌, ◌-◌, ◌^◌, ◌<◌, ◌&&◌, true, not, nat_le, nat_lt, length, ⊎_elim, sym, ◌∙◌, arith}
use Rattle.std.proofs.lemmas.Bool.{and_cases, and_parts, both_ways, leb-true, ltb-true, not-false}
use Rattle.precedence.specs.inner.lanes.Bits.{has_bit}
use Rattle.precedence.proofs.bits.Covering.{row_covers}
use Rattle.precedence.proofs.ranges.RowOfCode.{some_codes}
use Rattle.precedence.proofs.lanes.covering.uncovered_by.Goals as goal

pub returns-then-first-past-clause-covered : goal.returns-then-first-past-clause-covered
returns-then-first-past-clause-covered c = λ k was gone.
    let rows = c.args.table.now.rows.items in
    let cover = c.args.cover.now in
    let start = c.args.strip.now.start in
    let number = c.row_reached-number.result in
    let row = c.index-row.result.now in
    let first = c.max.result - start in
    let past = c.saturating_sub-past.result in
    let inside : (nat_le first k && nat_lt k past) ≡ true = ⊎_elim
    (λ none. absurd (both_ways _ none was))
    (λ cleared. not-false _ cleared)
    (and_cases (has_bit c.args.offsets k) (not (nat_le first k && nat_lt k past)) (sym (c.cleared.ensures k) ∙ gone)) in
    let both = and_parts (nat_le first k) (nat_lt k past) inside in
    let low = leb-true first k both.0 in
    let up = ltb-true k past both.1 in
    let lt : number < length rows = omega (arith, c.if-number-len.false, c.len.ensures) in
    row_covers rows number row cover.first cover.past (start + k) lt c.index-row.ensures
    (some_codes rows (10 ^ 15) number row c.args.table.now.in_order lt c.index-row.ensures)
    (omega (arith, c.if-cover.false))
    (omega (arith, low, c.max.ensures))
    (omega (arith, up, c.saturating_sub-past.ensures, c.min.ensures))
