use Rattle.std.proofs.Common.{rules}
use Rattle.text_lines.specs.TextLines.{fields_of}
use Rattle.minelib_reading.proofs.counts.LaterLines.{values_admitted}
use Rattle.minelib_reading.proofs.model.items.uncounted_values.Goals as goal

pub returns-in_err-read_decimals-clause-value : goal.returns-in_err-read_decimals-clause-value
returns-in_err-read_decimals-clause-value c =
    values_admitted c.args.blocks c.args.destinations c.args.before (fields_of c.args.line.now) _ _ (search rules)
