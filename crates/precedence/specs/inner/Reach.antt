-- The number of blocks of a row that are inside a cone, on either side.
use Rattle.std.specs.Prelude.{◌≡◌, ℕ, ◌+◌, ◌*◌, ◌<◌, ◌≤◌, Bool, nat_lt, nat_le, if◌then◌else◌}
use Rattle.std.specs.Int.{abs_diff}
use Rattle.plan_parts.specs.declared.cone.Cone.{Cone}
use Rattle.plan_parts.specs.declared.cone.Slope.{Slope}
use Rattle.plan_parts.specs.declared.grid.Grid.{Grid}
use Rattle.precedence.specs.Cone.{square, is_within_slopes}
use Rattle.precedence.specs.declared.cones.cone_rows.SideCounts.{SideCounts}
use Rattle.precedence.specs.declared.cones.cone_rows.Reach.{Reach}
use Rattle.plan_parts.specs.declared.ranges.TheConstants.{GRID_CELLS}

-- the remaining reach covers the distance d
abbrev pub is_in_reach : ℕ → Reach → Bool
is_in_reach d r = nat_le (square (d * r.weight) + r.used) r.reach

-- of the distances 0, 1, .. below 10,000, exactly the first `count` are inside
abbrev pub CountsAll : Reach → ℕ → Type 0
CountsAll r count = (d : ℕ) → d < GRID_CELLS → is_in_reach d r ≡ nat_lt d count

-- the slope along y of the row i, if the block's own row is `rows`
abbrev pub slope_across : Cone → ℕ → ℕ → Slope
slope_across cone rows i = if nat_lt rows i then cone.north else cone.south

-- in the row i of the bench dz above, exactly the first `count` blocks on a side are inside the slopes
abbrev pub CountsSide : Grid → Slope → Slope → ℕ → ℕ → ℕ → Type 0
CountsSide grid along across dy dz count = (d : ℕ) → d < GRID_CELLS → is_within_slopes grid along across d dy dz ≡ nat_lt d count

pub record CountsRow (grid : Grid) (cone : Cone) (rows dz i : ℕ) (counts : SideCounts) : Type 0 where
  pub few_west : counts.west ≤ GRID_CELLS
  pub few_east : counts.east ≤ GRID_CELLS
  pub west : CountsSide grid cone.west (slope_across cone rows i) (abs_diff i rows) dz counts.west
  pub east : CountsSide grid cone.east (slope_across cone rows i) (abs_diff i rows) dz counts.east
