use Rattle.std.proofs.Common.{◌∙◌}
use Rattle.pit_units.proofs.reading.parse_dec.Goals as goal

pub returns-clause-only : goal.returns-clause-only
returns-clause-only c = λ m stands. c.decimal_in.ensures ∙ (c.read_is_meant.ensures c.args.max_decimals c.args.text.now m c.requires).1 stands
