-- Alternative definitions of cones and predecessors, which theorems compare with the first ones.
use Rattle.std.specs.Prelude.{◌≡◌, ℕ, ◌+◌, ◌-◌, ◌*◌, ◌==◌, ◌&&◌, Bool, false, List, [], Option, Some, None, map, nat_lt, nat_le, slice_get}
use Rattle.std.specs.Int.{abs_diff}
use Rattle.std.specs.List.{list_any}
use Rattle.plan_parts.specs.Plan.{PlanParts}
use Rattle.plan_parts.specs.declared.block.Block.{Block}
use Rattle.plan_parts.specs.declared.cone.Cone.{Cone}
use Rattle.plan_parts.specs.declared.cone.Slope.{Slope}
use Rattle.plan_parts.specs.declared.grid.Grid.{Grid}
use Rattle.precedence.specs.Cone.{is_above, positions_where, square}
use Rattle.precedence.specs.Identifier.{id}

-- a cone with one slope on all sides
abbrev pub even_cone : Slope → ℕ → Cone
even_cone slope k = record { east = slope; west = slope; north = slope; south = slope; k = k }

-- p^2 ((dx Sx)^2 + (dy Sy)^2) ≤ q^2 (dz Sz)^2, 1 to k benches above
abbrev pub is_above_by : Grid → Slope → ℕ → Block → Block → Bool
is_above_by grid slope k low high =
    nat_lt low.z high.z
    && (nat_le (high.z - low.z) k
    && nat_le
    (square slope.p * (square (abs_diff low.x high.x * grid.x.size) + square (abs_diff low.y high.y * grid.y.size)))
    (square slope.q * square ((high.z - low.z) * grid.z.size)))

-- the cone has one slope on all sides
abbrev pub IsEven : Cone → Type 0
IsEven cone = cone ≡ even_cone cone.east cone.k

-- the identifiers of the blocks above a block by the one-slope test
abbrev pub above_by : Grid → Option Cone → List Block → Block → List ℕ
above_by grid (Some cone) blocks low = positions_where (is_above_by grid cone.east cone.k low) 0 blocks
above_by grid None blocks low = []

-- the predecessors of each block by identifier, by the one-slope test
abbrev pub preds_by : PlanParts → List Block → List (List ℕ)
preds_by plan blocks = map (λ low. above_by plan.grid (slice_get plan.cones low.zone) blocks low) blocks

-- `high` is a predecessor of `low` by the cone of the zone of `low`
abbrev pub is_pred_by : Grid → Option Cone → Block → Block → Bool
is_pred_by grid (Some cone) low high = is_above grid cone low high
is_pred_by grid None low high = false

-- some block of a list, in any order, has this identifier and is a predecessor of `low`
abbrev pub has_pred : PlanParts → List Block → Block → ℕ → Bool
has_pred plan listed low k = list_any (λ high. (id listed high == k) && is_pred_by plan.grid (slice_get plan.cones low.zone) low high) listed
