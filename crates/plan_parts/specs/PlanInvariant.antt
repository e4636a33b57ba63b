-- The invariant of every plan: the ranges and the order of its parts.
use Rattle.std.specs.Prelude.{◌≡◌, ℕ, ◌<◌, ◌≤◌, List, [], ◌∷◌, length, ℤ, pos, ◌≤ℤ◌, All, Bool, false, ◌==◌, ◌&&◌, ◌||◌, nat_lt, AllPairs, IsTrue, int_le, not}
use Rattle.std.specs.List.{list_any}
use Rattle.plan_parts.specs.formulas.Formula.{IsFormulaInRange}
use Rattle.plan_parts.specs.declared.grid.Axis.{Axis}
use Rattle.plan_parts.specs.declared.grid.Grid.{Grid}
use Rattle.plan_parts.specs.declared.cone.Slope.{Slope}
use Rattle.plan_parts.specs.declared.cone.Cone.{Cone}
use Rattle.plan_parts.specs.declared.formulas.formula.NamedFormula.{NamedFormula}
use Rattle.plan_parts.specs.declared.resource.Resource.{Resource}
use Rattle.plan_parts.specs.declared.limit.Bound.{Bound}
use Rattle.plan_parts.specs.declared.limit.Bound.TheVariants.{AtMost, AtLeast, Between}
use Rattle.plan_parts.specs.declared.limit.Limit.{Limit}
use Rattle.plan_parts.specs.declared.plan.Horizon.{Horizon}
use Rattle.plan_parts.specs.declared.ranges.TheConstants.{MAX_BENCHES, MAX_DESTINATIONS, MAX_ORIGIN, MAX_PERIODS, MAX_RATE, MAX_RESOURCES, MAX_SIZE, MAX_SLOPE, MAX_TONNES, MAX_ZONES, MIN_ORIGIN}
use Rattle.plan_parts.specs.Plan.{PlanParts}

-- the plan with these parts
abbrev pub plan_of : List ℕ → Grid → List Cone → List NamedFormula → Horizon → List Resource → List Limit → PlanParts
plan_of name grid cones formulas horizon resources limits = record {
  name = name;
  grid = grid;
  cones = cones;
  formulas = formulas;
  periods = horizon.periods;
  rate = horizon.rate;
  resources = resources;
  limits = limits;
}

-- an axis's origin is within 10^12 mm of zero, and its blocks are 1 to 100,000 mm long
abbrev pub IsAxis : Axis → Type 0
IsAxis a = ((MIN_ORIGIN ≤ℤ a.origin) × (a.origin ≤ℤ MAX_ORIGIN)) × ((1 ≤ a.size) × (a.size ≤ MAX_SIZE))

-- all axes of a grid are in range
abbrev pub IsGrid : Grid → Type 0
IsGrid g = IsAxis g.x × IsAxis g.y × IsAxis g.z

-- rise and run are 1 to 1000
abbrev pub IsSlope : Slope → Type 0
IsSlope s = ((1 ≤ s.p) × (s.p ≤ MAX_SLOPE)) × ((1 ≤ s.q) × (s.q ≤ MAX_SLOPE))

-- the slopes of a cone are in range, and it has 1 to 20 benches
abbrev pub IsCone : Cone → Type 0
IsCone c = (IsSlope c.east × IsSlope c.west × IsSlope c.north × IsSlope c.south) × ((1 ≤ c.k) × (c.k ≤ MAX_BENCHES))

-- tonnes of a limit: 0 to 10^12, in millionths
abbrev pub IsTonnes : ℤ → Type 0
IsTonnes v = (pos 0 ≤ℤ v) × (v ≤ℤ MAX_TONNES)

-- the numbers of a bound are tonnes
abbrev pub AreTonnes : Bound → Type 0
AreTonnes (AtMost v) = IsTonnes v
AreTonnes (AtLeast v) = IsTonnes v
AreTonnes (Between v w) = IsTonnes v × IsTonnes w

-- the lower end of an interval is above its upper end
abbrev pub is_turned : Bound → Bool
is_turned (Between v w) = not (int_le v w)
is_turned (AtMost v) = false
is_turned (AtLeast v) = false

-- the numbers of a bound are tonnes, and its lower end is not above its upper end
pub record IsBound (b : Bound) : Type 0 where
  pub tonnes : AreTonnes b
  pub straight : is_turned b ≡ false

-- a limit precedes another, by resource and then by period
abbrev pub stands_before : Limit → Limit → Bool
stands_before l m = nat_lt l.resource m.resource || ((l.resource == m.resource) && nat_lt l.period m.period)

-- limits rise strictly
abbrev pub RiseStrictly : List Limit → Type 0
RiseStrictly = AllPairs (λ l m. IsTrue (stands_before l m))

-- a number appears twice
abbrev pub has_repeat : List ℕ → Bool
has_repeat [] = false
has_repeat (n ∷ ns) = list_any (λ m. m == n) ns || has_repeat ns

-- a resource covers at least one destination, and none twice
abbrev pub AreCovers : List ℕ → Type 0
AreCovers covers = (1 ≤ length covers) × (has_repeat covers ≡ false)

-- the invariant of every plan
pub record IsPlan (p : PlanParts) : Type 0 where
  pub grid : IsGrid p.grid
  pub zones : (1 ≤ length p.cones) × (length p.cones ≤ MAX_ZONES)
  pub cones : All IsCone p.cones
  pub destinations : (1 ≤ length p.formulas) × (length p.formulas ≤ MAX_DESTINATIONS)
  pub formulas : All (λ f. IsFormulaInRange f.formula) p.formulas
  pub periods : (1 ≤ p.periods) × (p.periods ≤ MAX_PERIODS)
  pub rate : (pos 0 ≤ℤ p.rate) × (p.rate ≤ℤ MAX_RATE)
  pub resources : length p.resources ≤ MAX_RESOURCES
  pub covers : All (λ r. All (λ d. d < length p.formulas) r.covers) p.resources
  pub covers_once : All (λ r. AreCovers r.covers) p.resources
  pub limits : All (λ l. (l.resource < length p.resources) × (l.period < p.periods) × IsBound l.bound) p.limits
  pub rising : RiseStrictly p.limits
