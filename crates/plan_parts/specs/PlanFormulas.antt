-- The formulas of a plan.
use Rattle.std.specs.Prelude.{List, map}
use Rattle.plan_parts.specs.Plan.{PlanParts}
use Rattle.plan_parts.specs.declared.formulas.formula.Formula.{Formula}

-- the formulas of a plan's destinations, in order
abbrev pub formulas_of_plan : PlanParts → List Formula
formulas_of_plan plan = map (λ f. f.formula) plan.formulas
