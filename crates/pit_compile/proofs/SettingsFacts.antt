-- The settings have at most one fault by kind, and none where they suit.
use Rattle.std.proofs.Common.{◌≡◌, ◌↔◌, ℕ, List, Result, Ok, Err, IfErr, OnOk, refl, ap, subst}
use Rattle.plan_parts.specs.Plan.{PlanParts}
use Rattle.plan_parts.specs.declared.formulas.formula.Formula.{Formula}
use Rattle.pit_compile.specs.Settings.{IsSettingsFault}
use Rattle.pit_compile.specs.Suits.{Suits}
use Rattle.plan_parts.specs.declared.settings.Settings.{Settings}
use Rattle.refusals.specs.declared.settings_fault.SettingsFault.{SettingsFault}
use Rattle.refusals.specs.declared.settings_fault.SettingsFault.TheVariants.{Files, Valuers, Capacity, Destinations}

pub only_one : (plan : PlanParts) (files : ℕ) (formulas : List Formula) (settings : Settings) (a b : SettingsFault)
    → IsSettingsFault plan files formulas settings a → IsSettingsFault plan files formulas settings b → a ≡ b
only_one plan files formulas settings Files Files h k = refl
only_one plan files formulas settings Files later h k = absurd (h k.0)
only_one plan files formulas settings Valuers Files h k = absurd (k h.0)
only_one plan files formulas settings Valuers Valuers h k = refl
only_one plan files formulas settings Valuers later h k = absurd (h.1 k.1)
only_one plan files formulas settings Capacity Files h k = absurd (k h.0)
only_one plan files formulas settings Capacity Valuers h k = absurd (k.1 h.1)
only_one plan files formulas settings Capacity Capacity h k = refl
only_one plan files formulas settings Capacity Destinations h k = absurd (h.2 k.2)
only_one plan files formulas settings Destinations Files h k = absurd (k h.0)
only_one plan files formulas settings Destinations Valuers h k = absurd (k.1 h.1)
only_one plan files formulas settings Destinations Capacity h k = absurd (k.2 h.2)
only_one plan files formulas settings Destinations Destinations h k = refl

pub none_where_suits : (plan : PlanParts) (files : ℕ) (formulas : List Formula) (settings : Settings) (kind : SettingsFault)
    → Suits plan files formulas settings → IsSettingsFault plan files formulas settings kind → ⊥
none_where_suits plan files formulas settings Files fit h = h fit.files_fit
none_where_suits plan files formulas settings Valuers fit h = h.1 fit.valuers_fit
none_where_suits plan files formulas settings Capacity fit h = h.2 fit.capacity_fits
none_where_suits plan files formulas settings Destinations fit h = h.3 fit.destinations_fit

-- the fault that an answer tells
abbrev reported_fault : SettingsFault → Result (Unit {0}) SettingsFault → SettingsFault
reported_fault other (Ok done) = other
reported_fault other (Err fault) = fault

-- an answer that tells a fault of the settings, or that they suit, tells it exactly
pub reported_exactly : (plan : PlanParts) (files : ℕ) (formulas : List Formula) (settings : Settings) (answer : Result (Unit {0}) SettingsFault)
    → OnOk answer (Suits plan files formulas settings) → IfErr answer (IsSettingsFault plan files formulas settings)
    → (kind : SettingsFault) → (answer ≡ Err kind) ↔ IsSettingsFault plan files formulas settings kind
reported_exactly plan files formulas settings (Ok done) fit refused kind =
    (λ e. absurd cc, λ h. absurd (none_where_suits plan files formulas settings kind fit h))
reported_exactly plan files formulas settings (Err fault) fit refused kind = (
  λ e. subst (λ k. IsSettingsFault plan files formulas settings k) (ap (reported_fault fault) e) refused,
  λ h. ap Err (only_one plan files formulas settings fault kind refused h),
)
