use Rattle.std.proofs.Common.{◌≡◌, ℕ, ◌-◌, ◌^◌, ◌<◌, ◌≤◌, true, length}
use Rattle.precedence.specs.inner.lanes.Bits.{has_bit}
use Rattle.precedence.specs.inner.lanes.Windows.{of_table, scene}
use Rattle.precedence.specs.inner.lanes.Looking.{HasBlocks}
use Rattle.precedence.specs.inner.Between.{codes_in}
use Rattle.precedence.proofs.lanes.looking.lanes_of.Given as goal

abbrev pub invariant-loop-id : goal.invariant-loop-id
invariant-loop-id l = record {
  later : l.fn.id ≤ l.id;
  fits : l.lanes < 2 ^ 128;
  few : (p : ℕ) → has_bit l.lanes p ≡ true → p < 64;
  blocks : HasBlocks (scene l.cones) (of_table (scene l.cones) l.number) l.base 64 l.id l.lanes;
}

abbrev pub decreases-loop-id : goal.decreases-loop-id
decreases-loop-id l = length (codes_in l.cones) - l.id
