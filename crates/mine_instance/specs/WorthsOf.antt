-- The worths of rows by the formulas of a plan.
use Rattle.std.specs.Prelude.{◌≡◌, ℤ, List, map, All}
use Rattle.plan_parts.specs.Plan.{PlanParts}
use Rattle.plan_parts.specs.PlanFormulas.{formulas_of_plan}
use Rattle.rows.specs.Valued.{worths_by}
use Rattle.rows.specs.declared.item.Valued.{Valued}

-- these are the worths of the rows, and the plan's formulas yield them
abbrev pub AreWorthsOf : PlanParts → List (List ℤ) → List Valued → Type 0
AreWorthsOf plan worths rows =
    (worths ≡ map (λ row. row.worths) rows) × All (λ row. row.worths ≡ worths_by (formulas_of_plan plan) row.block) rows
