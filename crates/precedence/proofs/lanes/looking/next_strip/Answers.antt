use Rattle.std.proofs.Common.{◌+◌, ◌-◌, ◌<◌, ◌^◌, refl, ap, ◌∙◌, length, get_or, arith}
use Rattle.std.proofs.lemmas.List.Elements.{All-get_or}
use Rattle.precedence.specs.declared.places.code.TheConstants.{CODES}
use Rattle.precedence.specs.inner.Rows.{start_of}
use Rattle.precedence.specs.inner.Between.{codes_in}
use Rattle.precedence.proofs.bits.Looking.{none_join, none_seen, none_to, none_without}
use Rattle.precedence.proofs.lanes.looking.next_strip.Goals as goal

pub returns-in_err-row-clause-none : goal.returns-in_err-row-clause-none
returns-in_err-row-clause-none c = λ _.
    let own = c.args.table.now.rows.items in
    none_join c.args.cones.now own c.args.base c.args.at c.loop-row.at (10 ^ 15) c.loop-row.invariant.passed
    (none_without c.args.cones.now own c.args.base c.loop-row.at (10 ^ 15) (λ e le lt. c.in_err-row.ensures.none refl e le))

pub returns-then-id-codes-clause-none : goal.returns-then-id-codes-clause-none
returns-then-id-codes-clause-none c = λ _.
    let b = c.args.cones.now in
    let own = c.args.table.now.rows.items in
    let base = c.args.base in
    let at = c.loop-row.at in
    let start = c.max-start.result in
    let value = c.as_slice-codes.ensures.value in
    let first = c.start_of-id.ensures ∙ ap (start_of (base + start)) value in
    none_join b own base c.args.at at (10 ^ 15) c.loop-row.invariant.passed
    (none_join b own base at start (10 ^ 15) (none_to b own base at start c.in_ok-row.row c.in_ok-row.ensures.some c.max-start.ensures)
    (none_seen b own base start (10 ^ 15) c.start_of-id.result first (λ lt. absurd (omega (arith, lt, c.if-id-codes.true, ap length value)))))

pub invariant_of-result : goal.invariant_of-result
invariant_of-result c =
    let row = c.in_ok-row.ensures.some in
    let some = row.some in
    let left = row.left in
    let small = c.in_ok-row.row.small in
    record {
      some = omega (arith, some, left, c.max-start.ensures, c.min-len.ensures);
      few = omega (arith, c.min-len.ensures);
      small = omega (arith, some, left, c.max-start.ensures, c.min-len.ensures, small);
    }

pub returns-then-codes-id-clause-next : goal.returns-then-codes-id-clause-next
returns-then-codes-id-clause-next c =
    let b = c.args.cones.now in
    let own = c.args.table.now.rows.items in
    let base = c.args.base in
    let at = c.loop-row.at in
    let start = c.max-start.result in
    let row = c.in_ok-row.ensures.some in
    let left = row.left in
    let some = row.some in
    record {
      later = let later = c.loop-row.invariant.later in omega (arith, later, c.max-start.ensures);
      inside = λ e has. row.inside e (omega (arith, has.0, c.max-start.ensures)) (omega (arith, has.1, c.min-len.ensures, left, some, c.max-start.ensures));
      first = c.start_of-id.ensures ∙ ap (start_of (base + start)) c.as_slice-codes.ensures.value;
      passed = none_join b own base c.args.at at start c.loop-row.invariant.passed
          (none_to b own base at start c.in_ok-row.row row c.max-start.ensures);
    }

pub loop-row-preserved : goal.loop-row-preserved
loop-row-preserved c =
    let b = c.args.cones.now in
    let own = c.args.table.now.rows.items in
    let base = c.args.base in
    let at = c.loop-row.at in
    let start = c.max-start.result in
    let id = c.start_of-id.result in
    let value = c.as_slice-codes.ensures.value in
    let first = c.start_of-id.ensures ∙ ap (start_of (base + start)) value in
    let small = All-get_or (λ n. n < CODES) (codes_in b) id 0 (omega (arith, c.if-id-codes.false, ap length value)) b.places.now.small in
    let same = ap (λ cs. get_or cs id 0) value in
    let next = get_or c.as_slice-codes.result.now id 0 - base - 63 in
    record {
      later = let later = c.loop-row.invariant.later in omega (arith, later, c.if-codes-id.false, c.max-start.ensures);
      small = omega (arith, small, same);
      passed = none_join b own base c.args.at at next c.loop-row.invariant.passed
          (none_join b own base at start next (none_to b own base at start c.in_ok-row.row c.in_ok-row.ensures.some c.max-start.ensures)
          (none_seen b own base start next id first (λ lt. omega (arith, same, c.if-codes-id.false))));
    }
