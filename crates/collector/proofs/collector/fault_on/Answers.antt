use Rattle.std.proofs.Common.{◌∙◌}
use Rattle.collector.proofs.ItemsByFile.{row_fault-at, end_fault-at}
use Rattle.collector.proofs.collector.fault_on.Goals as goal

pub returns-in-Some : goal.returns-in-Some
returns-in-Some c =
    let items_by_file = c.args.items_by_file.now in
    let found = c.in-Some.ensures.lookup in
    rw c.in-Row.is (c.row_fault.ensures ∙ row_fault-at items_by_file c.in-Row.row c.in-Some.file_items.now found.3.0 found.1)

pub returns-in-Some-get : goal.returns-in-Some-get
returns-in-Some-get c =
    let items_by_file = c.args.items_by_file.now in
    let found = c.in-Some-get.ensures.lookup in
    rw c.in-End.is (c.end_fault.ensures ∙ end_fault-at items_by_file c.in-End.file c.in-End.rows c.in-Some-get.file_items.now found.3.0 found.1)
