use Rattle.std.proofs.Common.{◌≡◌, length}
use Rattle.records.specs.Cells.{without_trailing_blanks}
use Rattle.records.proofs.cells.without_trailing_blanks.Given as goal

abbrev pub invariant-loop-rest : goal.invariant-loop-rest
invariant-loop-rest l = without_trailing_blanks l.rest ≡ without_trailing_blanks l.fn.cell

abbrev pub decreases-loop-rest : goal.decreases-loop-rest
decreases-loop-rest l = length l.rest
