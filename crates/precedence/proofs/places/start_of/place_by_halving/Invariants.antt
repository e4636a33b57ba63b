use Rattle.std.proofs.Common.{◌≤◌, ◌-◌, length}
use Rattle.precedence.specs.inner.Rows.{start_of}
use Rattle.precedence.proofs.places.start_of.place_by_halving.Given as goal

abbrev pub invariant-loop-low : goal.invariant-loop-low
invariant-loop-low l = record {
  low : l.low ≤ start_of l.target l.numbers;
  high : start_of l.target l.numbers ≤ l.high;
  within : l.high ≤ length l.numbers;
}

abbrev pub decreases-loop-low : goal.decreases-loop-low
decreases-loop-low l = l.high - l.low
