-- What the records of a plan state so far.
use Rattle.std.specs.Prelude.{ℕ, ◌==◌, ◌&&◌, Bool, List, [], ◌∷◌, ◌++◌, position, ℤ, Option, None, if◌then◌else◌}
use Rattle.std.specs.Str.{bytes_eq}
use Rattle.plan_parts.specs.PlanInvariant.{stands_before}
use Rattle.plan_parts.specs.declared.cone.Cone.{Cone}
use Rattle.plan_parts.specs.declared.formulas.formula.Formula.{Formula}
use Rattle.plan_parts.specs.declared.formulas.formula.NamedFormula.{NamedFormula}
use Rattle.plan_parts.specs.declared.grid.Grid.{Grid}
use Rattle.plan_parts.specs.declared.limit.Limit.{Limit}
use Rattle.plan_parts.specs.declared.resource.Resource.{Resource}

-- the stated parts. A part that appears once is there if it was stated; the others are in the order of their records, but limits
-- are in order of resource and then period
pub record Stated : Type 0 where
  pub name : Option (List ℕ)
  pub grid : Option Grid
  pub cones : List Cone
  pub formulas : List NamedFormula
  pub periods : Option ℕ
  pub rate : Option ℤ
  pub resources : List Resource
  pub limits : List Limit

-- before the first record
abbrev pub nothing_stated : Stated
nothing_stated = record { name = None; grid = None; cones = []; formulas = []; periods = None; rate = None; resources = []; limits = [] }

-- the number of the destination, or the resource, with this NAME
abbrev pub destination_named : List NamedFormula → List ℕ → Option ℕ
destination_named formulas name = position (λ f. bytes_eq f.name name) formulas

abbrev pub resource_named : List Resource → List ℕ → Option ℕ
resource_named resources name = position (λ r. bytes_eq r.name name) resources

-- the same parts, with another zone, destination or resource at the end
abbrev pub with_zone : Stated → Cone → Stated
with_zone s cone = record s { cones = s.cones ++ cone ∷ [] }

abbrev pub with_destination : Stated → List ℕ → Formula → Stated
with_destination s name formula = record s { formulas = s.formulas ++ record { name = name; formula = formula } ∷ [] }

abbrev pub with_resource : Stated → List ℕ → List ℕ → Stated
with_resource s name covers = record s { resources = s.resources ++ record { name = name; covers = covers } ∷ [] }

-- two limits have the same resource and period
abbrev pub is_same_place : Limit → Limit → Bool
is_same_place l m = (l.resource == m.resource) && (l.period == m.period)

-- the limits with another one, in order
abbrev pub with_limit : Limit → List Limit → List Limit
with_limit l [] = l ∷ []
with_limit l (m ∷ ms) = if stands_before l m then l ∷ m ∷ ms else m ∷ with_limit l ms
