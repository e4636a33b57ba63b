-- Blocks between two others: in the cone of one block, with the other block in their cones.
use Rattle.std.specs.Prelude.{◌≡◌, ℕ, ◌<◌, Bool, true, List, length, slice_index}
use Rattle.precedence.specs.inner.Rows.{is_in_rows}
use Rattle.precedence.specs.inner.ZoneTables.{zone_rows}
use Rattle.precedence.specs.declared.cones.block_cones.BlockCones.{BlockCones}
use Rattle.precedence.specs.declared.cones.cone_rows.Row.{Row}
use Rattle.precedence.specs.declared.cones.cone_table.ConeTable.{ConeTable}

-- the rows of each block's cone
abbrev pub cone_of : List ConeTable → (of_zone zones : List ℕ) → ℕ → List Row
cone_of tables of_zone zones id = zone_rows tables of_zone (slice_index zones id)

-- the block x is in the cone of the block d
abbrev pub is_in_cone : List ℕ → (ℕ → List Row) → ℕ → ℕ → Bool
is_in_cone codes cone d x = is_in_rows (slice_index codes d) (cone d) (slice_index codes x)

-- d is in the cone of `low`, and `high` is in the cone of d
pub record IsBetween (codes : List ℕ) (cone : ℕ → List Row) (low high d : ℕ) : Type 0 where
  pub within : d < length codes
  pub above : is_in_cone codes cone low d ≡ true
  pub below : is_in_cone codes cone d high ≡ true

-- ---- blocks with their cones

abbrev pub codes_in : BlockCones → List ℕ
codes_in b = b.places.now.codes.items

abbrev pub tables_in : BlockCones → List ConeTable
tables_in b = b.tables.now.tables.items
