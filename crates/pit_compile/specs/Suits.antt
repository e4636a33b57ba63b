-- Settings that fit a plan, for the number of its zone files and the formulas of its destinations.
use Rattle.std.specs.Prelude.{◌≡◌, ℕ, ◌≤◌, List, length}
use Rattle.plan_parts.specs.PlanFormulas.{formulas_of_plan}
use Rattle.plan_parts.specs.Plan.{PlanParts}
use Rattle.plan_parts.specs.declared.formulas.formula.Formula.{Formula}
use Rattle.plan_parts.specs.declared.settings.Settings.{Settings}
use Rattle.pit_compile.specs.Settings.{IsFrom1To}
use Rattle.plan_parts.specs.declared.ranges.TheConstants.{MAX_CAPACITY, MAX_VALUERS, MAX_ZONES}

-- nothing is wrong with the settings. A plan has at most 64 zones
pub record Suits (plan : PlanParts) (files : ℕ) (formulas : List Formula) (settings : Settings) : Type 0 where
  pub files_fit : files ≡ length plan.cones
  pub few_files : files ≤ MAX_ZONES
  pub valuers_fit : IsFrom1To MAX_VALUERS settings.valuers
  pub capacity_fits : IsFrom1To MAX_CAPACITY settings.capacity
  pub destinations_fit : formulas ≡ formulas_of_plan plan
