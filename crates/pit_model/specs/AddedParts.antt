-- What a record of a plan adds to the parts that earlier records state: the part that its cells encode.
use Rattle.std.specs.Prelude.{◌≡◌, ◌≢◌, ℕ, ◌≤◌, false, List, length, drop, ℤ, pos, Some, None, unwrap_or}
use Rattle.std.specs.List.{list_any}
use Rattle.pit_units.specs.EncodedNumbers.{EncodesBelow, EncodesInteger, EncodesNumber}
use Rattle.records.specs.RecordCells.{cell_at}
use Rattle.plan_parts.specs.PlanInvariant.{has_repeat, is_turned}
use Rattle.plan_parts.specs.declared.cone.Cone.{Cone}
use Rattle.plan_parts.specs.declared.formulas.formula.Formula.{Formula}
use Rattle.plan_parts.specs.declared.grid.Grid.{Grid}
use Rattle.plan_parts.specs.declared.limit.Limit.{Limit}
use Rattle.plan_parts.specs.declared.ranges.TheConstants.{MAX_DESTINATIONS, MAX_PERIODS, MAX_RATE, MAX_RESOURCES, MAX_ZONES}
use Rattle.pit_model.specs.EncodedCells.{IsNameOf}
use Rattle.pit_model.specs.EncodedParts.{EncodesBound, EncodesCone, EncodesFormula, EncodesGrid, NameDestinations}
use Rattle.pit_model.specs.Stated.{Stated, destination_named, is_same_place, resource_named, with_destination, with_limit, with_resource, with_zone}
use Rattle.pit_model.specs.declared.plan_key.PlanKey.{PlanKey}
use Rattle.pit_model.specs.declared.plan_key.PlanKey.TheVariants as key

-- a limit: its resource and period, both among the stated ones, and its bound
abbrev pub EncodesLimit : Stated → List (List ℕ) → Limit → Type 0
EncodesLimit s cells l =
    (resource_named s.resources (cell_at cells 1) ≡ Some l.resource)
    × EncodesBelow (unwrap_or s.periods 0) (cell_at cells 2) l.period × EncodesBound cells l.bound

-- for each key: the part that the cells encode, if it is new. A part that appears once must not be stated yet. Zones, destinations
-- and resources must be fewer than their maximum. All other parts are unchanged
abbrev pub AddsPart : PlanKey → Stated → List (List ℕ) → Stated → Type 0
AddsPart key.Name s cells next =
    (name : List ℕ) × (length cells ≡ 2) × IsNameOf (cell_at cells 1) name × (s.name ≡ None) × (next ≡ record s { name = Some name })
AddsPart key.Grid s cells next = (grid : Grid) × EncodesGrid cells grid × (s.grid ≡ None) × (next ≡ record s { grid = Some grid })
AddsPart key.Zone s cells next = (cone : Cone) × EncodesCone cells cone × (length s.cones ≢ MAX_ZONES) × (next ≡ with_zone s cone)
AddsPart (key.Destination k) s cells next =
    (name : List ℕ) × (formula : Formula) × IsNameOf (cell_at cells 1) name × EncodesFormula k cells formula
    × (destination_named s.formulas name ≡ None) × (length s.formulas ≢ MAX_DESTINATIONS) × (next ≡ with_destination s name formula)
AddsPart key.Periods s cells next =
    (periods : ℕ) × (length cells ≡ 2) × EncodesInteger 1 MAX_PERIODS (cell_at cells 1) periods × (s.periods ≡ None)
    × (next ≡ record s { periods = Some periods })
AddsPart key.Rate s cells next =
    (rate : ℤ) × (length cells ≡ 2) × EncodesNumber 6 (pos 0) MAX_RATE (cell_at cells 1) rate × (s.rate ≡ None)
    × (next ≡ record s { rate = Some rate })
AddsPart key.Resource s cells next =
    (name : List ℕ) × (covers : List ℕ) × (3 ≤ length cells) × IsNameOf (cell_at cells 1) name
    × NameDestinations s.formulas (drop 2 cells) covers × (has_repeat covers ≡ false) × (resource_named s.resources name ≡ None)
    × (length s.resources ≢ MAX_RESOURCES) × (next ≡ with_resource s name covers)
AddsPart key.Limit s cells next =
    (l : Limit) × EncodesLimit s cells l × (list_any (λ m. is_same_place l m) s.limits ≡ false) × (is_turned l.bound ≡ false)
    × (next ≡ record s { limits = with_limit l s.limits })
