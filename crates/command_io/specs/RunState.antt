-- What a run compiles, and what it finds and leaves.
use Rattle.std.specs.Prelude.{ℕ, List}
use Rattle.devices.specs.files.Opening.{Opening}
use Rattle.plan_parts.specs.Plan.{PlanParts}
use Rattle.plan_parts.specs.PlanFormulas.{formulas_of_plan}
use Rattle.plan_parts.specs.declared.formulas.formula.Formula.{Formula}
use Rattle.plan_parts.specs.declared.settings.Settings.{Settings}
use Rattle.run_threads.specs.Starts.{StartsView}

-- a plan, the formulas of the destinations, the paths of the zone files, and the settings of the run
pub record Inputs : Type 0 where
  pub plan : PlanParts
  pub formulas : List Formula
  pub zones : List (List ℕ)
  pub settings : Settings

-- with the destinations of the plan itself
abbrev pub inputs_of_plan : PlanParts → (zones : List (List ℕ)) → Settings → Inputs
inputs_of_plan plan zones settings = record { plan = plan; formulas = formulas_of_plan plan; zones = zones; settings = settings }

-- the requests to open files so far, the thread starts, and the states of the sinks
pub record RunState (Sinks : Type 0) : Type 0 where
  pub opened : List Opening
  pub starts : StartsView
  pub sinks : Sinks

abbrev pub run_state : {Sinks : Type 0} → List Opening → StartsView → Sinks → RunState Sinks
run_state opened starts sinks = record { opened = opened; starts = starts; sinks = sinks }
