use Rattle.std.proofs.Common.{◌≡◌, length}
use Rattle.valuers.proofs.lane_tests.put_rows.Given as goal

abbrev pub invariant-loop-row : goal.invariant-loop-row
invariant-loop-row g l = (l.end.lane ≡ l.fn.end.lane) × (l.end.file ≡ l.fn.end.file) × (length l.end.sent ≡ l.row)
