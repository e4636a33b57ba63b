use Rattle.std.proofs.Common.{arith}
use Rattle.pit_units.proofs.Digits.{small_value}
use Rattle.pit_units.proofs.LeadingFacts.{decimals_lead, digits_count}
use Rattle.pit_units.proofs.prefix.leading_decimals.Goals as goal

pub overflow_cast-result : goal.overflow_cast-result
overflow_cast-result c =
    let d = c.leading_digits-number.ensures.digits in
    let count = digits_count c.args.text.now c.leading_digits-number.result.0 c.leading_digits-number.result.1.now d in
    omega (
      arith,
      c.requires,
      c.from.ensures,
      count,
      small_value _ 6 c.leading_digits-number.result.0 (omega (arith, c.requires, c.from.ensures, count)) d.small,
    )

pub returns-clause-decimals : goal.returns-clause-decimals
returns-clause-decimals c =
    let d = c.leading_digits-number.ensures.digits in
    let count = digits_count c.args.text.now c.leading_digits-number.result.0 c.leading_digits-number.result.1.now d in
    decimals_lead c.args.max_decimals c.args.text.now c.leading_digits-number.result.0 c.leading_digits-number.result.1.now
    c.scale.result c.requires (omega (arith, count, c.from.ensures)) d c.scale.ensures
