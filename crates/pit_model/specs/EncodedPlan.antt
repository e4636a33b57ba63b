-- Records that encode a plan one after the other, and what is wrong with other records.
use Rattle.std.specs.Prelude.{◌≡◌, ◌⊎◌, ℕ, suc, ◌+◌, ◌≤◌, List, [], ◌∷◌, ◌++◌, length, Some}
use Rattle.records.specs.RecordCells.{cells_of}
use Rattle.plan_parts.specs.Plan.{PlanParts}
use Rattle.plan_parts.specs.declared.ranges.TheConstants.{MAX_PLAN_RECORDS}
use Rattle.pit_model.specs.AddedParts.{AddsPart}
use Rattle.pit_model.specs.FailedParts.{RecordFails}
use Rattle.pit_model.specs.PlanKeys.{IsKey}
use Rattle.pit_model.specs.Stated.{Stated, nothing_stated}
use Rattle.pit_model.specs.declared.plan_fault.PlanFault.{PlanFault}
use Rattle.pit_model.specs.declared.plan_fault.PlanFaultKind.TheVariants.{Missing}
use Rattle.pit_model.specs.declared.plan_key.PlanKey.{PlanKey}

-- no cells, which add nothing; or cells that add the part of their key
abbrev pub CellsAdd : Stated → List (List ℕ) → Stated → Type 0
CellsAdd s [] next = next ≡ s
CellsAdd s (first ∷ cells) next = (k : PlanKey) × IsKey first k × AddsPart k s (first ∷ cells) next

-- what the record with this number, at most 10,000, adds to earlier records
abbrev pub RecordStates : ℕ → Stated → List (List ℕ) → Stated → Type 0
RecordStates number s row next = (number ≤ MAX_PLAN_RECORDS) × CellsAdd s (cells_of row) next

-- what records add one after the other; the first record has this number
abbrev pub RecordsState : ℕ → Stated → List (List (List ℕ)) → Stated → Type 0
RecordsState number s [] last = last ≡ s
RecordsState number s (row ∷ rows) last = (next : Stated) × RecordStates number s row next × RecordsState (suc number) next rows last

-- the stated parts are the plan's parts, and no required part is missing
pub record ArePlan (s : Stated) (p : PlanParts) : Type 0 where
  pub name : s.name ≡ Some p.name
  pub grid : s.grid ≡ Some p.grid
  pub cones : (1 ≤ length s.cones) × (p.cones ≡ s.cones)
  pub formulas : (1 ≤ length s.formulas) × (p.formulas ≡ s.formulas)
  pub periods : s.periods ≡ Some p.periods
  pub rate : s.rate ≡ Some p.rate
  pub resources : p.resources ≡ s.resources
  pub limits : p.limits ≡ s.limits

-- the records encode the plan
abbrev pub EncodePlan : List (List (List ℕ)) → PlanParts → Type 0
EncodePlan rows p = (s : Stated) × RecordsState 1 nothing_stated rows s × ArePlan s p

-- the fault of the first record that states nothing
abbrev pub IsFirstFault : ℕ → Stated → List (List (List ℕ)) → PlanFault → Type 0
IsFirstFault number s [] fault = ⊥
IsFirstFault number s (row ∷ rows) fault =
    ((fault.row ≡ number) × RecordFails number s (cells_of row) fault.kind)
    ⊎ ((next : Stated) × RecordStates number s row next × IsFirstFault (suc number) next rows fault)

-- each record before this number states something. With the record of this number they encode no plan, whatever records follow
pub record IsFirstSpoiled (rows : List (List (List ℕ))) (number : ℕ) : Type 0 where
  pub before : List (List (List ℕ))
  pub bad : List (List ℕ)
  pub following : List (List (List ℕ))
  pub cut : rows ≡ before ++ bad ∷ following
  pub place : number ≡ length before + 1
  pub state : Stated
  pub begun : RecordsState 1 nothing_stated before state
  pub spoiled : (others : List (List (List ℕ))) (p : PlanParts) → ¬ (EncodePlan (before ++ bad ∷ others) p)

-- each record states its part, and at the end a required part is missing
abbrev pub IsLacking : List (List (List ℕ)) → PlanFault → Type 0
IsLacking rows fault =
    (s : Stated) × RecordsState 1 nothing_stated rows s × ((p : PlanParts) → ¬ (ArePlan s p))
    × (fault.kind ≡ Missing) × (fault.row ≡ length rows + 1)
