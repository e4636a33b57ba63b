-- Destinations of a plan, and the closures that they call.
use Rattle.std.specs.Prelude.{◌≡◌, List}
use Rattle.std.specs.declared.alloc.Global.{Global}
use Rattle.std.specs.declared.dyn_box.DynBox.{DynBox}
use Rattle.plan_parts.specs.Plan.{PlanParts}
use Rattle.plan_parts.specs.declared.formulas.destination.Destination.{Destination}
use Rattle.plan_parts.specs.PlanFormulas.{formulas_of_plan}
use Rattle.plan_parts.specs.Destinations.{formulas_of}

-- the closure that a destination calls
abbrev pub valuer_of : {I : _} {F : _} {g : _} → Destination I F g → DynBox I Global F
valuer_of d = d.valuer

-- these are the plan's destinations: they have its formulas, in order
abbrev pub AreOfPlan : {I : _} {F : _} {g : _} → List (Destination I F g) → PlanParts → Type 0
AreOfPlan destinations plan = formulas_of destinations ≡ formulas_of_plan plan
