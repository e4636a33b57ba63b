use Rattle.std.proofs.Common.{◌≡◌, length}
use Rattle.valuers.proofs.valuer.tests.put_six.Given as goal

abbrev pub invariant-loop-row : goal.invariant-loop-row
invariant-loop-row g l = (l.put.lane ≡ l.fn.put.lane) × (l.put.file ≡ l.fn.put.file) × (length l.put.sent ≡ l._row)
