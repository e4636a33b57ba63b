use Rattle.std.proofs.Common.{rules, ◌≡◌, to_z, of_z, w64}
use Rattle.pit_units.specs.Decimal.{signed}
use Rattle.pit_units.proofs.LeadingFacts.{dec_leads}
use Rattle.pit_units.proofs.prefix.leading_dec.Goals as goal

pub returns-clause-decimal : goal.returns-clause-decimal
returns-clause-decimal c =
    let found = c.in_ok-size in
    let same : to_z w64 (of_z w64 c.with_sign.result) ≡ signed c.without_minus-negative.result.0 found.size = search rules in
    rw same (dec_leads c.args.max_decimals c.args.text.now c.without_minus-negative.result.0 c.without_minus-negative.result.1.now
    found.size found.rest.now c.requires found.ensures.small c.without_minus-negative.ensures.joined found.ensures.size)
