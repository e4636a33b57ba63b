use Rattle.std.proofs.Common.{◌≡◌, ℕ, ◌<◌, ◌≤◌, get_or}
use Rattle.plan_parts.specs.declared.cone.Cone.{Cone}
use Rattle.precedence.specs.declared.cones.cone_rows.Extent.{Extent}
use Rattle.precedence.proofs.cones.bounds.extent_for.Given as goal

-- covers the extent of each of the zones so far
abbrev pub invariant-loop-zone : goal.invariant-loop-zone
invariant-loop-zone l = record {
  few_rows : l.rows < 10000;
  few_benches : l.benches < 10000;
  wider : (z : ℕ) (c : Cone) (e : Extent) → z < l.zone → get_or l.cones z c ≡ l.cone
      → ((get_or l.extents z e).rows ≤ l.rows) × ((get_or l.extents z e).benches ≤ l.benches);
}
