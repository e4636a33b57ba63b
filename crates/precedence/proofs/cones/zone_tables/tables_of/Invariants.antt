use Rattle.std.proofs.Common.{◌≡◌, ℕ, ◌<◌, All, length, get_or}
use Rattle.plan_parts.specs.declared.cone.Cone.{Cone}
use Rattle.precedence.specs.inner.ZoneTables.{IsExact}
use Rattle.precedence.specs.declared.cones.cone_table.ConeTable.{ConeTable}
use Rattle.precedence.proofs.cones.zone_tables.tables_of.Given as goal

-- The zones so far have their tables.
abbrev pub invariant-loop-cone : goal.invariant-loop-cone
invariant-loop-cone l = record {
  zones : length l.of_zone.items ≡ l.cone-index;
  below : All (λ t. t < length l.tables.items) l.of_zone.items;
  same : (z : ℕ) (cone : Cone) (table : ConeTable) → z < l.cone-index
      → (get_or l.tables.items (get_or l.of_zone.items z 0) table).cone ≡ get_or l.cones z cone;
  exact : All (IsExact l.grid l.cones l.extents) l.tables.items;
}
