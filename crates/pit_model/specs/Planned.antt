-- The plan that a text states: the parts that its records state in order, if no required part is missing.
use Rattle.std.specs.Prelude.{ℕ, suc, ◌+◌, ◌==◌, ◌||◌, not, nat_le, List, [], ◌∷◌, length, ℤ, Option, Some, Result, Ok, Err, if◌then◌else◌}
use Rattle.pit_units.specs.Steps.{◌>>=◌}
use Rattle.records.specs.RecordCells.{cells_of}
use Rattle.records.specs.Records.{records_of}
use Rattle.plan_parts.specs.Plan.{PlanParts}
use Rattle.plan_parts.specs.PlanInvariant.{plan_of}
use Rattle.pit_model.specs.PlanRecords.{record_of}
use Rattle.pit_model.specs.Stated.{Stated, nothing_stated}
use Rattle.plan_parts.specs.declared.grid.Grid.{Grid}
use Rattle.pit_model.specs.declared.plan_fault.PlanFault.{PlanFault}
use Rattle.pit_model.specs.declared.plan_fault.PlanFaultKind.{PlanFaultKind}
use Rattle.pit_model.specs.declared.plan_fault.PlanFaultKind.TheVariants.{Missing, TooMany}
use Rattle.plan_parts.specs.declared.ranges.TheConstants.{MAX_PLAN_RECORDS}

-- a result for the record with this number; a fault gets the number
abbrev pub at_row : {A : Type 0} → ℕ → Result A PlanFaultKind → Result A PlanFault
at_row number (Ok answer) = Ok answer
at_row number (Err kind) = Err (record { row = number; kind = kind })

-- what the record with this number, at most 10,000, adds to earlier records
abbrev pub record_at : ℕ → Stated → List (List ℕ) → Result Stated PlanFault
record_at number s row = at_row number (if not (nat_le number MAX_PLAN_RECORDS) then Err TooMany else record_of s (cells_of row))

-- what records state one after the other, or the first fault; the first record has this number
abbrev pub records_from : ℕ → Stated → List (List (List ℕ)) → Result Stated PlanFault
records_from number s [] = Ok s
records_from number s (row ∷ rows) = record_at number s row >>= λ next. records_from (suc number) next rows

-- the required parts, with at least one zone and one destination
abbrev pub whole_plan : Option (List ℕ) → Option Grid → Option ℕ → Option ℤ → Stated → Result PlanParts PlanFaultKind
whole_plan (Some name) (Some grid) (Some periods) (Some rate) s =
    if (length s.cones == 0) || (length s.formulas == 0) then Err Missing
    else Ok (plan_of name grid s.cones s.formulas (record { periods = periods; rate = rate }) s.resources s.limits)
whole_plan name grid periods rate s = Err Missing

-- the plan after all records, if no required part is missing
abbrev pub finished : Stated → Result PlanParts PlanFaultKind
finished s = whole_plan s.name s.grid s.periods s.rate s

-- the plan that a text states, or the row and kind of its first invalid record. For a missing part, the row is the number of
-- records + 1
abbrev pub planned : List ℕ → Result PlanParts PlanFault
planned text = records_from 1 nothing_stated (records_of text) >>= λ s. at_row (length (records_of text) + 1) (finished s)
