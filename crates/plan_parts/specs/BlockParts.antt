-- The ranges of a block's fields, and the fields of a block.
use Rattle.std.specs.Prelude.{◌≡◌, ℕ, ◌<◌, ◌≤◌}
use Rattle.plan_parts.specs.declared.block.Block.{Block}
use Rattle.plan_parts.specs.declared.ranges.TheConstants.{GRID_CELLS, MAX_GRADE, MAX_KG, MAX_ZONES}

-- indices below 10,000 along each axis, at most 10^9 kg, at most 10^12 millionths of a gram per tonne, one of 64 zones
abbrev pub AreInRange : ℕ → ℕ → ℕ → ℕ → ℕ → ℕ → Type 0
AreInRange x y z kg grade zone =
    (x < GRID_CELLS) × (y < GRID_CELLS) × (z < GRID_CELLS) × (kg ≤ MAX_KG) × (grade ≤ MAX_GRADE) × (zone < MAX_ZONES)

-- the block has these fields
abbrev pub HasParts : ℕ → ℕ → ℕ → ℕ → ℕ → ℕ → Block → Type 0
HasParts x y z kg grade zone b =
    (b.x ≡ x) × (b.y ≡ y) × (b.z ≡ z) × (b.kg ≡ kg) × (b.grade ≡ grade) × (b.zone ≡ zone)
