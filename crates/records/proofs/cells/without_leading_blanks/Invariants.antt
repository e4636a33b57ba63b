use Rattle.std.proofs.Common.{◌≡◌, length}
use Rattle.records.specs.Cells.{without_leading_blanks}
use Rattle.records.proofs.cells.without_leading_blanks.Given as goal

abbrev pub invariant-loop-rest : goal.invariant-loop-rest
invariant-loop-rest l = without_leading_blanks l.rest ≡ without_leading_blanks l.fn.cell

abbrev pub decreases-loop-rest : goal.decreases-loop-rest
decreases-loop-rest l = length l.rest
