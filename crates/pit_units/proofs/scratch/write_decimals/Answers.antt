use Rattle.std.proofs.Common.{refl}
use Rattle.pit_units.proofs.Text.{six_decimals}
use Rattle.pit_units.proofs.scratch.write_decimals.Goals as goal

pub returns-clause-text : goal.returns-clause-text
returns-clause-text c =
    rw (six_decimals c.args.millionths c.requires.0 c.if-rest-eq0.false, c.write_byte.ensures.text, c.write_three-at.ensures.text, c.write_last-at.ensures.text) refl
