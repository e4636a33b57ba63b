-- Rows that the zone files of a plan can have.
use Rattle.std.specs.Prelude.{◌≡◌, ◌<◌, ◌≤◌, List, length, All}
use Rattle.plan_parts.specs.PlanFormulas.{formulas_of_plan}
use Rattle.plan_parts.specs.Plan.{PlanParts}
use Rattle.rows.specs.Valued.{worths_by}
use Rattle.rows.specs.declared.item.Valued.{Valued}
use Rattle.plan_parts.specs.declared.ranges.TheConstants.{MAX_BLOCKS, MAX_ROWS}

-- the place of a row is within its file
abbrev pub HasPlace : Valued → Type 0
HasPlace row = row.place < MAX_ROWS

-- the zone files of a plan can have these rows
pub record AreModelRows (plan : PlanParts) (rows : List Valued) : Type 0 where
  pub few : length rows ≤ MAX_BLOCKS
  pub placed : All HasPlace rows
  pub zones : All (λ row. row.block.zone < length plan.cones) rows
  pub valued : All (λ row. row.worths ≡ worths_by (formulas_of_plan plan) row.block) rows
