use Rattle.std.proofs.Common.{arith}
use Rattle.rows.proofs.Cells.{eight_cells, worths_then_zeros}
use Rattle.rows.proofs.worths.Worths.new.Goals as goal

pub invariant_of-result : goal.invariant_of-result
invariant_of-result c =
    rw c.copy_from_slice.ensures.after
    ((omega arith, omega arith), eight_cells c.args.worths.now (omega arith), worths_then_zeros c.args.worths.now)
