use Rattle.std.proofs.Common.{◌^◌, arith}
use Rattle.precedence.proofs.bits.Looking.{no_row_from, row_from_is}
use Rattle.precedence.proofs.lanes.looking.row_from.Goals as goal

pub returns-then-number-len-clause-some : goal.returns-then-number-len-clause-some
returns-then-number-len-clause-some c =
    let table = c.args.table.now in
    row_from_is table.rows.items c.args.at (10 ^ 15) c.row_reached-number.result table.in_order c.row_reached-number.ensures c.index.result.now (omega arith) c.index.ensures

pub returns-else-number-len-clause-none : goal.returns-else-number-len-clause-none
returns-else-number-len-clause-none c = λ _.
    let table = c.args.table.now in
    no_row_from table.rows.items c.args.at (10 ^ 15) c.row_reached-number.result table.in_order c.row_reached-number.ensures (omega arith)
