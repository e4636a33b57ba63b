use Rattle.std.proofs.Common.{arith}
use Rattle.pit_units.proofs.LeadingFacts.{size_of_units, size_with_point, usual_is_coarse, usual_is_taken}
use Rattle.pit_units.proofs.prefix.leading_size.Goals as goal
use Rattle.pit_units.proofs.prefix.leading_size.Goals.{then-following-text-via-then-following-text, then-following-text-via-else-following-text+then-units-gt-MOST_UNITS}

pub returns-in_ok-decimals-in-Some-clause-size : goal.returns-in_ok-decimals-in-Some-clause-size
returns-in_ok-decimals-in-Some-clause-size c =
    let from = c.in_ok-decimals-in-Some in
    rw c.from.ensures (size_with_point c.args.max_decimals c.args.text.now c.leading_digits-units.result.0 c.leading_digits-units.result.1.now
    c.in-Some.tail.now from.decimals from.rest.now c.leading_digits-units.ensures.digits
    c.if-following-text.false c.in-Some.ensures from.ensures.decimals)

pub returns-in-None-clause-size : goal.returns-in-None-clause-size
returns-in-None-clause-size c =
    size_of_units c.args.max_decimals c.args.text.now c.leading_digits-units.result.0 c.leading_digits-units.result.1.now
    c.leading_digits-units.ensures.digits c.if-following-text.false

pub returns-then-following-text-clause-taken : goal.returns-then-following-text-clause-taken
returns-then-following-text-clause-taken c = λ usual.
    let taken = usual_is_taken c.args.max_decimals c.args.text.now c.leading_digits-units.result.0 c.leading_digits-units.result.1.now
    c.leading_digits-units.ensures.digits c.leading_digits-units.ensures.rest usual in
    absurd (elim c.then-following-text.branch [
      | then-following-text-via-then-following-text w ↦ omega (arith, taken)
      | then-following-text-via-else-following-text+then-units-gt-MOST_UNITS w ↦ omega (arith, taken)
    ])

pub returns-in_err-decimals-in-Some-clause-taken : goal.returns-in_err-decimals-in-Some-clause-taken
returns-in_err-decimals-in-Some-clause-taken c = λ usual.
    let coarse = usual_is_coarse c.args.max_decimals c.args.text.now c.leading_digits-units.result.1.now
    c.in-Some.tail.now c.leading_digits-units.ensures.rest c.in-Some.ensures usual in
    let none = c.in_err-decimals-in-Some.ensures.taken coarse in
    cc none
