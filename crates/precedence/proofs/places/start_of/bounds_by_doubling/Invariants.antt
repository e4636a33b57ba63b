use Rattle.std.proofs.Common.{◌≤◌, ◌-◌, length}
use Rattle.precedence.specs.inner.Rows.{start_of}
use Rattle.precedence.proofs.places.start_of.bounds_by_doubling.Given as goal

abbrev pub invariant-loop-step : goal.invariant-loop-step
invariant-loop-step l = record {
  low : l.low ≤ start_of l.target l.numbers;
  within : l.low ≤ length l.numbers;
  some : 1 ≤ l.step;
}

abbrev pub decreases-loop-step : goal.decreases-loop-step
decreases-loop-step l = length l.numbers - l.low
