use Rattle.std.proofs.Common.{◌≡◌, take, length}
use Rattle.rows.proofs.worths.Worths.of_cents.Given as goal

abbrev pub invariant-loop-place : goal.invariant-loop-place
invariant-loop-place l = (take l.place l.cells ≡ take l.place l.cents) × (length l.cells ≡ 8)
