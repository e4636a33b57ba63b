use Rattle.text_lines.specs.TextLines.{fields_of}
use Rattle.minelib_reading.proofs.counts.LaterLines.{values_kind}
use Rattle.minelib_reading.proofs.model.items.values_of_line.Goals as goal

pub returns-in-Err-Fault-clause-value : goal.returns-in-Err-Fault-clause-value
returns-in-Err-Fault-clause-value c =
    rw (c.fault_kind_of_line.ensures, c.from-width.ensures)
    (values_kind c.args.blocks c.args.destinations c.args.before (fields_of c.args.line.now) c.in-Err-Fault.kind
    (rw c.in-Err-Fault.field-0-is at c.in-Err-Fault.ensures.value))
