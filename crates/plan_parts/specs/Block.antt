-- A block by its fields.
use Rattle.std.specs.Prelude.{ℕ, suc, ◌-◌, ◌<◌, min}
use Rattle.std.proofs.Math.Nat.{min-le_right, suc-le-suc_iff}
use Rattle.plan_parts.specs.declared.block.Block.{Block}
use Rattle.plan_parts.specs.declared.ranges.TheConstants.{GRID_CELLS, MAX_GRADE, MAX_KG, MAX_ZONES}

-- the smaller of a number and the largest in range is in range
pub smallest_below : (n most : ℕ) → min n most < suc most
smallest_below n most = suc-le-suc_iff.1 (min-le_right n most)

-- the block with these fields. A field above its range is replaced by the largest number in range, so that every argument gives a block;
-- readers check the ranges first
unfoldable pub block_with : (x y z kg grade zone : ℕ) → Block
block_with x y z kg grade zone = record {
  x = min x (GRID_CELLS - 1);
  y = min y (GRID_CELLS - 1);
  z = min z (GRID_CELLS - 1);
  kg = min kg MAX_KG;
  grade = min grade MAX_GRADE;
  zone = min zone (MAX_ZONES - 1);
  x_in_grid = smallest_below x (GRID_CELLS - 1);
  y_in_grid = smallest_below y (GRID_CELLS - 1);
  z_in_grid = smallest_below z (GRID_CELLS - 1);
  kg_in_range = min-le_right kg MAX_KG;
  grade_in_range = min-le_right grade MAX_GRADE;
  zone_in_range = smallest_below zone (MAX_ZONES - 1);
}
