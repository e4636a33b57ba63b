-- The tables of cones, and the table of each zone.
use Rattle.std.specs.Prelude.{◌≡◌, ℕ, ◌<◌, ◌≤◌, List, [], Option, Some, None, All, length, slice_get, slice_index, slice_index_or}
use Rattle.plan_parts.specs.declared.block.Block.{Block}
use Rattle.plan_parts.specs.declared.cone.Cone.{Cone}
use Rattle.plan_parts.specs.declared.grid.Grid.{Grid}
use Rattle.precedence.specs.inner.Rows.{IsTable}
use Rattle.precedence.specs.declared.cones.bounds.Bounds.{Bounds}
use Rattle.precedence.specs.declared.cones.cone_table.ConeTable.{ConeTable}
use Rattle.precedence.specs.declared.cones.cone_rows.Extent.{Extent}
use Rattle.precedence.specs.declared.cones.cone_rows.Row.{Row}

-- the bounds include the block
pub record Holds (bounds : Bounds) (b : Block) : Type 0 where
  pub south : bounds.south ≤ b.y
  pub north : b.y ≤ bounds.north
  pub top : b.z ≤ bounds.top

-- at least as far as the other
pub record IsWider (extent other : Extent) : Type 0 where
  pub rows : other.rows ≤ extent.rows
  pub benches : other.benches ≤ extent.benches

-- the table is correct for each zone with its cone, as far as the zone's extent
pub record IsExact (grid : Grid) (cones : List Cone) (extents : List Extent) (table : ConeTable) : Type 0 where
  pub each : (z : ℕ) (cone : Cone) (e : Extent) → z < length cones → slice_index_or cones z cone ≡ table.cone
      → IsTable grid table.cone (slice_index_or extents z e) table.rows.items

-- `place` is the index of the cone's table, and the tables before it are unchanged
pub record HasTableAt (cone : Cone) (old new : List ConeTable) (place : ℕ) : Type 0 where
  pub within : place < length new
  pub cone_is : (t : ConeTable) → (slice_index_or new place t).cone ≡ cone
  pub more : length old ≤ length new
  pub kept : (k : ℕ) (t : ConeTable) → k < length old → slice_index_or new k t ≡ slice_index_or old k t

-- each zone's index is the index of its cone's table
pub record HasTables (grid : Grid) (cones : List Cone) (extents : List Extent) (tables : List ConeTable) (of_zone : List ℕ) : Type 0 where
  pub zones : length of_zone ≡ length cones
  pub below : All (λ t. t < length tables) of_zone
  pub same : (z : ℕ) (cone : Cone) (table : ConeTable) → z < length cones → (slice_index_or tables (slice_index of_zone z) table).cone ≡ slice_index_or cones z cone
  pub exact : All (IsExact grid cones extents) tables

abbrev pub rows_of_table : Option ConeTable → List Row
rows_of_table None = []
rows_of_table (Some table) = table.rows.items

-- the rows of a zone's cone
abbrev pub zone_rows : List ConeTable → List ℕ → ℕ → List Row
zone_rows tables of_zone zone = rows_of_table (slice_get tables (slice_index of_zone zone))
