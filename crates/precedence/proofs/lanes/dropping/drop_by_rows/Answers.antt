use Rattle.std.proofs.Common.{◌≡◌, ◌+◌, ◌-◌, ◌^◌, ◌<◌, ◌≤◌, length, get_or, min, sym, ap, subst, ◌∙◌, arith}
use Rattle.precedence.specs.declared.cones.cone_rows.Row.{Row}
use Rattle.precedence.specs.inner.lanes.Windows.{Drops}
use Rattle.precedence.specs.inner.Rows.{LieApart}
use Rattle.precedence.proofs.bits.Dropping.{drops_first, drops_next, drops_none, drops_so, drops_some, may_so}
use Rattle.precedence.proofs.bits.RowsMet.{MeetsRow, row_met, met_row, none_met, meets_of_met, met_of_meets}
use Rattle.precedence.proofs.ranges.RowOfCode.{row_is, some_codes}
use Rattle.precedence.proofs.lanes.dropping.drop_by_rows.Goals.{then-first-past, else-first-past}
use Rattle.precedence.proofs.lanes.dropping.drop_by_rows.Goals as goal

pub loop-number-init : goal.loop-number-init
loop-number-init c =
    let rows = c.args.table.now.rows.items in
    record {
      from = omega arith;
      within = omega (arith, c.requires.row, ap length c.as_slice-rows.ensures.value);
      drops = drops_first (MeetsRow c.args.strip.now rows c.args.most) c.args.row c.args.lanes;
    }

pub overflow_sub-row : goal.overflow_sub-row
overflow_sub-row c =
    let row = c.index-rows-number-in-loop-number.result in
    omega (
      arith,
      some_codes c.as_slice-rows.result.now (10 ^ 15) c.loop-number.number row
          (subst (λ rows. LieApart 0 rows (10 ^ 15)) (sym c.as_slice-rows.ensures.value) c.args.table.now.in_order)
          c.loop-number-test.true c.index-rows-number-in-loop-number.is,
    )

pub loop-number-preserved : goal.loop-number-preserved
loop-number-preserved c =
    let strip = c.args.strip.now in
    let rows = c.args.table.now.rows.items in
    let most = c.args.most in
    let number = c.loop-number.number in
    let row = c.index-rows-number-in-loop-number.result in
    let lt : number < length rows = omega (arith, c.loop-number-test.true, ap length c.as_slice-rows.ensures.value) in
    let at : row ≡ get_or rows number row = c.index-rows-number-in-loop-number.is ∙ ap (λ rs. get_or rs number row) c.as_slice-rows.ensures.value in
    let tested = row_is c.as_slice-rows.result.now number row c.loop-number-test.true c.index-rows-number-in-loop-number.is c.index-rows-number.result in
    let begun : row.first ≤ most = omega (arith, c.if-rows-number.true, ap (λ (r : Row). r.first) tested) in
    let some = some_codes rows (10 ^ 15) number row c.args.table.now.in_order lt at in
    let first = most - c.min.result in
    let past = c.min-past.result in
    let first_is : first ≡ most - min most (row.past - 1) = ap (λ n. most - n) c.min.ensures in
    let past_is : past ≡ min (most - row.first + 1) strip.len = c.min-past.ensures ∙ ap (λ n. min (most - row.first + 1) n) c.from.ensures in
    let from : c.args.row ≤ number = c.loop-number.invariant.from in
    record {
      from = omega arith;
      within = omega arith;
      drops = drops_next (MeetsRow strip rows most) c.args.row number from c.loop-number.invariant.drops (elim c.if-first-past.branch [
        | then-first-past w ↦ subst (λ rest. Drops (MeetsRow strip rows most number) c.loop-number.rest rest) (sym w.rest-is) (
            drops_so
            (λ i has. row_met strip rows most number row lt at some begun first past first_is past_is i (omega (arith, w.if-first-past)) has)
            (met_row strip rows most number row lt at some begun first past first_is past_is)
            (drops_some c.loop-number.rest strip.word first (past - first) w.without-rest.result w.without-rest.ensures.among
            w.without-rest.ensures.none w.without-rest.ensures.dropped)
            )
        | else-first-past w ↦ subst (λ rest. Drops (MeetsRow strip rows most number) c.loop-number.rest rest) (sym w.rest-is) (
            drops_none _ _ (none_met strip rows most number row lt at some begun first past first_is past_is (omega (arith, w.if-first-past)))
            )
      ]);
    }

pub returns-else-rows-number-clause-may : goal.returns-else-rows-number-clause-may
returns-else-rows-number-clause-may c =
    let lt : c.loop-number.number < length c.args.table.now.rows.items = omega (arith, c.loop-number-test.true, ap length c.as_slice-rows.ensures.value) in
    may_so
    (λ i met. meets_of_met c.args.strip.now c.args.table.now.rows.items c.args.most c.args.row c.loop-number.number i (omega arith) met)
    c.loop-number.invariant.drops.may

pub returns-else-rows-number-clause-all : goal.returns-else-rows-number-clause-all
returns-else-rows-number-clause-all c = λ low.
    let strip = c.args.strip.now in
    let rows = c.args.table.now.rows.items in
    let number = c.loop-number.number in
    let row = c.index-rows-number.result in
    let lt : number < length rows = omega (arith, c.loop-number-test.true, ap length c.as_slice-rows.ensures.value) in
    let at : row ≡ get_or rows number row = c.index-rows-number.is ∙ ap (λ rs. get_or rs number row) c.as_slice-rows.ensures.value in
    drops_so
    (λ i met. meets_of_met strip rows c.args.most c.args.row number i (omega arith) met)
    (λ i meets. met_of_meets strip rows c.args.most (10 ^ 15) c.args.row number i meets.0 c.args.table.now.in_order low
    (λ _ d. rw (row_is rows number row lt at d) (omega (arith, c.if-rows-number.false, ap (λ (r : Row). r.first) c.index-rows-number.is))) meets.1)
    c.loop-number.invariant.drops

pub returns-after-loop-number-clause-may : goal.returns-after-loop-number-clause-may
returns-after-loop-number-clause-may c = may_so
    (λ i met. meets_of_met c.args.strip.now c.args.table.now.rows.items c.args.most c.args.row c.loop-number.number i
    (omega (arith, ap length c.as_slice-rows.ensures.value, c.loop-number.invariant.within)) met)
    c.loop-number.invariant.drops.may

pub returns-after-loop-number-clause-all : goal.returns-after-loop-number-clause-all
returns-after-loop-number-clause-all c = λ low.
    let strip = c.args.strip.now in
    let rows = c.args.table.now.rows.items in
    let number = c.loop-number.number in
    let same : length c.as_slice-rows.result.now ≡ length rows = ap length c.as_slice-rows.ensures.value in
    let ended : length rows ≤ number = omega (arith, same, c.loop-number-test.false) in
    drops_so
    (λ i met. meets_of_met strip rows c.args.most c.args.row number i (omega (arith, same, c.loop-number.invariant.within)) met)
    (λ i meets. met_of_meets strip rows c.args.most (10 ^ 15) c.args.row number i meets.0 c.args.table.now.in_order low
    (λ lt d. absurd (omega arith)) meets.1)
    c.loop-number.invariant.drops
