use Rattle.std.proofs.Common.{rules, append_assoc}
use Rattle.std.specs.Prelude.{decimal}
use Rattle.pit_units.specs.Decimal.{shortest}
use Rattle.mine_instance.specs.BlockValues.{values_in}
use Rattle.minelib_writing.proofs.LineFacts.{line_of-map}
use Rattle.minelib_writing.proofs.lines.values.append_values.Goals as goal

pub returns-clause-text : goal.returns-clause-text
returns-clause-text c =
    rw (line_of-map (decimal c.args.id) shortest (values_in c.args.values)) (search (rules, append_assoc))
