use Rattle.std.proofs.Common.{◌≡◌, ◌+◌, ◌-◌, ◌≤◌, length}
use Rattle.precedence.specs.inner.lanes.Windows.{any_block, scene}
use Rattle.precedence.specs.inner.lanes.Looking.{AreGrown, HasBlocks}
use Rattle.precedence.specs.inner.Between.{codes_in}
use Rattle.precedence.proofs.lanes.looking.add_strip.Given as goal

abbrev pub invariant-loop-id : goal.invariant-loop-id
invariant-loop-id l = record {
  later : l.strip.id ≤ l.id;
  same : l.sight.all.strips.items ≡ l.initial.sight.all.strips.items;
  blocks : HasBlocks (scene l.cones) any_block l.from (l.strip.len + 63) l.id l.word;
  by_table : AreGrown (scene l.cones) l.from l.id l.strip l.initial.sight.by_table.items l.sight.by_table.items;
}

abbrev pub decreases-loop-id : goal.decreases-loop-id
decreases-loop-id l = length (codes_in l.cones) - l.id
