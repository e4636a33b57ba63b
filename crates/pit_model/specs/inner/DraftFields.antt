-- How contracts see the fields of a plan that is being read, and what its fields satisfy.
use Rattle.std.specs.Prelude.{◌<◌, ◌≤◌, length, ◌≤ℤ◌, pos, All, IfSome, unwrap_or}
use Rattle.pit_model.specs.declared.draft.Draft.TheInside.{Inside}
use Rattle.plan_parts.specs.formulas.Formula.{IsFormulaInRange}
use Rattle.plan_parts.specs.PlanInvariant.{IsGrid, IsCone, IsBound, AreCovers, RiseStrictly}
use Rattle.pit_model.specs.Stated.{Stated}
use Rattle.plan_parts.specs.declared.ranges.TheConstants.{MAX_DESTINATIONS, MAX_PERIODS, MAX_RATE, MAX_RESOURCES, MAX_ZONES}

abbrev pub stated_of : Inside → Stated
stated_of d = record {
  name = d.name;
  grid = d.grid;
  cones = d.cones.items;
  formulas = d.formulas.items;
  periods = d.periods;
  rate = d.rate;
  resources = d.resources.items;
  limits = d.limits.items;
}

-- each stated part is in range
pub record KeepsStated (s : Stated) : Type 0 where
  pub grid : IfSome s.grid IsGrid
  pub zones : length s.cones ≤ MAX_ZONES
  pub cones : All IsCone s.cones
  pub destinations : length s.formulas ≤ MAX_DESTINATIONS
  pub formulas : All (λ f. IsFormulaInRange f.formula) s.formulas
  pub periods : IfSome s.periods (λ n. (1 ≤ n) × (n ≤ MAX_PERIODS))
  pub rate : IfSome s.rate (λ r. (pos 0 ≤ℤ r) × (r ≤ℤ MAX_RATE))
  pub resources : length s.resources ≤ MAX_RESOURCES
  pub covers : All (λ r. All (λ n. n < length s.formulas) r.covers) s.resources
  pub covers_once : All (λ r. AreCovers r.covers) s.resources
  pub limits : All (λ l. (l.resource < length s.resources) × (l.period < unwrap_or s.periods 0) × IsBound l.bound) s.limits
  pub rising : RiseStrictly s.limits

abbrev pub KeepsDraft : Inside → Type 0
KeepsDraft d = KeepsStated (stated_of d)
