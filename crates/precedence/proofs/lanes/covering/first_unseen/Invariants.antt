use Rattle.std.proofs.Common.{◌≡◌, ◌≤◌, ◌<◌, ◌+◌, ◌-◌, ℕ, true}
use Rattle.precedence.specs.inner.lanes.Bits.{has_bit}
use Rattle.precedence.proofs.lanes.covering.first_unseen.Given as goal

abbrev pub invariant-loop-at : goal.invariant-loop-at
invariant-loop-at l = record {
  within : l.at ≤ l.strip.len;
  all : (i at : ℕ) → l.from ≤ at → at < l.at → has_bit l.lanes i ≡ true → has_bit l.strip.word (i + at) ≡ true;
}

abbrev pub decreases-loop-at : goal.decreases-loop-at
decreases-loop-at l = l.strip.len - l.at
