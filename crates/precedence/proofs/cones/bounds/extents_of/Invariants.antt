use Rattle.std.proofs.Common.{◌≡◌, ℕ, ◌<◌, ◌≤◌, length, get_or}
use Rattle.plan_parts.specs.declared.block.Block.{Block}
use Rattle.precedence.specs.declared.cones.cone_rows.Extent.{Extent}
use Rattle.precedence.specs.inner.Rows.{IsWithin}
use Rattle.precedence.specs.inner.ZoneTables.{Holds}
use Rattle.precedence.proofs.cones.bounds.extents_of.Given as goal

-- The bounds include the blocks from i on, and the extents reach from each of them to the blocks after it.
abbrev pub invariant-loop-i : goal.invariant-loop-i
invariant-loop-i l = record {
  inside : l.i ≤ length l.blocks;
  each : length l.extents.items ≡ l.zones;
  holds : (k : ℕ) (d : Block) → l.i ≤ k → k < length l.blocks → Holds l.bounds (get_or l.blocks k d);
  north : l.bounds.north < 10000;
  top : l.bounds.top < 10000;
  near : (k j : ℕ) (d : Block) (e : Extent) → l.i ≤ k → k ≤ j → j < length l.blocks
      → IsWithin (get_or l.extents.items (get_or l.blocks k d).zone e) (get_or l.blocks k d) (get_or l.blocks j d);
}

abbrev pub decreases-loop-i : goal.decreases-loop-i
decreases-loop-i l = l.i
