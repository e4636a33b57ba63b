use Rattle.std.proofs.Common.{length, ◌-◌}
use Rattle.command_io.proofs.Walk.{IsUncut}
use Rattle.command_io.proofs.pieces.first_piece.Given as goal

abbrev pub invariant-loop-at : goal.invariant-loop-at
invariant-loop-at l = IsUncut l.text l.at

abbrev pub decreases-loop-at : goal.decreases-loop-at
decreases-loop-at l = length l.text - l.at
