use Rattle.std.proofs.Common.{Err, ap, refl}
use Rattle.command_io.proofs.Unread.{as_failed}
use Rattle.command_io.proofs.input.read_source.Goals as goal

pub returns-in-Err-clause-refused : goal.returns-in-Err-clause-refused
returns-in-Err-clause-refused g c = (c.in-Err.fault, c.in-Err.ensures.reads.refused, c.unread.ensures)

pub returns-in-Err-clause-sure : goal.returns-in-Err-clause-sure
returns-in-Err-clause-sure g c =
    λ sure is. c.in-Err.ensures.reads.sure sure (ap Err (as_failed c.args.source c.in-Err.fault c.unread.result _ c.unread.ensures refl is))
