-- The parts of a plan, from its fields.
use Rattle.plan_parts.specs.declared.plan.Plan.TheInside.{Inside}
use Rattle.plan_parts.specs.Plan.{PlanParts}
use Rattle.plan_parts.specs.PlanInvariant.{IsPlan}

abbrev pub parts_of : Inside → PlanParts
parts_of p = record {
  name = p.name;
  grid = p.grid;
  cones = p.cones.items;
  formulas = p.formulas.items;
  periods = p.periods;
  rate = p.rate;
  resources = p.resources.items;
  limits = p.limits.items;
}

abbrev pub KeepsPlan : Inside → Type 0
KeepsPlan p = IsPlan (parts_of p)
