-- The parts of a plan.
use Rattle.std.specs.Prelude.{ℕ, List, ℤ}
use Rattle.plan_parts.specs.declared.grid.Grid.{Grid}
use Rattle.plan_parts.specs.declared.cone.Cone.{Cone}
use Rattle.plan_parts.specs.declared.formulas.formula.NamedFormula.{NamedFormula}
use Rattle.plan_parts.specs.declared.resource.Resource.{Resource}
use Rattle.plan_parts.specs.declared.limit.Limit.{Limit}

-- the parts of a plan
pub record PlanParts : Type 0 where
  pub name : List ℕ
  pub grid : Grid
  -- one for each zone, in the order of the zone files
  pub cones : List Cone
  -- the destinations
  pub formulas : List NamedFormula
  pub periods : ℕ
  -- the discount rate, in millionths
  pub rate : ℤ
  pub resources : List Resource
  pub limits : List Limit
