-- What is wrong with the settings of a run, for its plan, the number of its zone files, and the formulas of its destinations.
use Rattle.std.specs.Prelude.{◌≡◌, ◌≢◌, ℕ, ◌≤◌, List, length}
use Rattle.plan_parts.specs.PlanFormulas.{formulas_of_plan}
use Rattle.plan_parts.specs.Plan.{PlanParts}
use Rattle.plan_parts.specs.declared.formulas.formula.Formula.{Formula}
use Rattle.plan_parts.specs.declared.settings.Settings.{Settings}
use Rattle.refusals.specs.declared.settings_fault.SettingsFault.{SettingsFault}
use Rattle.refusals.specs.declared.settings_fault.SettingsFault.TheVariants.{Files, Valuers, Capacity, Destinations}
use Rattle.plan_parts.specs.declared.ranges.TheConstants.{MAX_CAPACITY, MAX_VALUERS}

-- n is from 1 to `most`
abbrev pub IsFrom1To : ℕ → ℕ → Type 0
IsFrom1To most n = (1 ≤ n) × (n ≤ most)

-- this is the first thing wrong, in the order of this list
abbrev pub IsSettingsFault : PlanParts → ℕ → List Formula → Settings → SettingsFault → Type 0
IsSettingsFault plan files formulas settings Files = files ≢ length plan.cones
IsSettingsFault plan files formulas settings Valuers = (files ≡ length plan.cones) × ¬ IsFrom1To MAX_VALUERS settings.valuers
IsSettingsFault plan files formulas settings Capacity =
    (files ≡ length plan.cones) × IsFrom1To MAX_VALUERS settings.valuers × ¬ IsFrom1To MAX_CAPACITY settings.capacity
IsSettingsFault plan files formulas settings Destinations =
    (files ≡ length plan.cones) × IsFrom1To MAX_VALUERS settings.valuers × IsFrom1To MAX_CAPACITY settings.capacity
    × (formulas ≢ formulas_of_plan plan)
