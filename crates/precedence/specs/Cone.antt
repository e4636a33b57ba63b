-- The predecessors of a block: the blocks in the cone that opens above it.
use Rattle.std.specs.Prelude.{ℕ, ◌+◌, ◌-◌, ◌*◌, ◌&&◌, Bool, List, [], ◌∷◌, Option, Some, None, map, nat_lt, nat_le, slice_get, if◌then◌else◌}
use Rattle.std.specs.Int.{abs_diff}
use Rattle.plan_parts.specs.Plan.{PlanParts}
use Rattle.plan_parts.specs.declared.block.Block.{Block}
use Rattle.plan_parts.specs.declared.cone.Cone.{Cone}
use Rattle.plan_parts.specs.declared.cone.Slope.{Slope}
use Rattle.plan_parts.specs.declared.grid.Grid.{Grid}

-- the slope on the side of `low` where `high` is. If `high` is on neither side, the distance is 0 and either slope gives the same result
abbrev pub slope_along_x : Cone → Block → Block → Slope
slope_along_x cone low high = if nat_lt low.x high.x then cone.east else cone.west

abbrev pub slope_along_y : Cone → Block → Block → Slope
slope_along_y cone low high = if nat_lt low.y high.y then cone.north else cone.south

abbrev pub square : ℕ → ℕ
square n = n * n

-- (dx Sx px qy)^2 + (dy Sy py qx)^2 ≤ (dz Sz qx qy)^2, with the slope px : qx along x, py : qy along y, and the sizes of the blocks
abbrev pub is_within_slopes : Grid → Slope → Slope → ℕ → ℕ → ℕ → Bool
is_within_slopes grid slope_x slope_y dx dy dz =
    nat_le
    (square (dx * (grid.x.size * slope_x.p * slope_y.q)) + square (dy * (grid.y.size * slope_y.p * slope_x.q)))
    (square (dz * (grid.z.size * slope_x.q * slope_y.q)))

-- `high` is 1 to k benches above `low` and inside the slopes
abbrev pub is_above : Grid → Cone → Block → Block → Bool
is_above grid cone low high =
    nat_lt low.z high.z
    && (nat_le (high.z - low.z) cone.k
    && is_within_slopes grid (slope_along_x cone low high) (slope_along_y cone low high) (abs_diff low.x high.x) (abs_diff low.y high.y) (high.z - low.z))

-- the positions of the elements that pass the test, counted from n
abbrev pub positions_where : {X : Type 0} → (X → Bool) → ℕ → List X → List ℕ
positions_where test n [] = []
positions_where test n (x ∷ xs) = if test x then n ∷ positions_where test (n + 1) xs else positions_where test (n + 1) xs

-- the identifiers of the blocks in the cone above a block, in ascending order. `blocks` is ordered by identifier
abbrev pub above : Grid → Option Cone → List Block → Block → List ℕ
above grid (Some cone) blocks low = positions_where (is_above grid cone low) 0 blocks
above grid None blocks low = []

-- the predecessors of each block, by the cone of the block's own zone
abbrev pub preds : PlanParts → List Block → List (List ℕ)
preds plan blocks = map (λ low. above plan.grid (slice_get plan.cones low.zone) blocks low) blocks
