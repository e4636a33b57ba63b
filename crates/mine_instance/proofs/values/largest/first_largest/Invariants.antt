use Rattle.std.proofs.Common.{ℕ, ◌<◌, ℤ, ◌<ℤ◌, ◌≤ℤ◌, get_or, length}
use Rattle.mine_instance.proofs.values.largest.first_largest.Given as goal

-- The numbers before the best so far are smaller, and none before the index is larger.
abbrev pub invariant-loop-index : goal.invariant-loop-index
invariant-loop-index l = record {
  within : l.best < length l.numbers;
  less : (k : ℕ) (d : ℤ) → k < l.best → get_or l.numbers k d <ℤ get_or l.numbers l.best d;
  most : (k : ℕ) (d : ℤ) → k < l.index → get_or l.numbers k d ≤ℤ get_or l.numbers l.best d;
}
