-- What is wrong with a record of a plan: the kind of the first requirement that it violates.
use Rattle.std.specs.Prelude.{◌≡◌, ◌≢◌, ◌⊎◌, ℕ, ◌≤◌, ◌%◌, true, false, List, [], ◌∷◌, length, drop, pos, Some, None, unwrap_or, codes}
use Rattle.std.specs.List.{list_any}
use Rattle.pit_units.specs.EncodedNumbers.{EncodesBelow, EncodesInteger, EncodesNumber, IsDecimal, IsFine}
use Rattle.records.specs.RecordCells.{cell_at}
use Rattle.plan_parts.specs.formulas.BandsInvariant.{starts_rise}
use Rattle.plan_parts.specs.PlanInvariant.{has_repeat, is_turned}
use Rattle.plan_parts.specs.declared.formulas.band.Band.{Band}
use Rattle.plan_parts.specs.declared.formulas.formula.NamedFormula.{NamedFormula}
use Rattle.plan_parts.specs.declared.limit.Limit.{Limit}
use Rattle.plan_parts.specs.declared.ranges.TheConstants.{MAX_BANDS, MAX_BENCHES, MAX_COST, MAX_DESTINATIONS, MAX_GRADE, MAX_PERIODS, MAX_PLAN_RECORDS, MAX_PRICE, MAX_RATE, MAX_RECOVERY, MAX_RESOURCES, MAX_SLOPE, MAX_ZONES}
use Rattle.pit_model.specs.AddedParts.{EncodesLimit}
use Rattle.pit_model.specs.PlanKeys.{IsKey}
use Rattle.pit_model.specs.EncodedCells.{EncodesOrigin, EncodesSize, EncodesTonnes, IsNameOf}
use Rattle.pit_model.specs.EncodedParts.{EncodeBands, NameDestinations}
use Rattle.pit_model.specs.Stated.{Stated, destination_named, is_same_place, resource_named}
use Rattle.pit_model.specs.declared.draft.formulas.FormulaKey.{FormulaKey}
use Rattle.pit_model.specs.declared.draft.formulas.FormulaKey.TheVariants as formula_key
use Rattle.pit_model.specs.declared.plan_fault.PlanFaultKind.{PlanFaultKind}
use Rattle.pit_model.specs.declared.plan_fault.PlanFaultKind.TheVariants.{Key, Width, Number, TooFine, Range, Name, Twice, Order, TooMany}
use Rattle.pit_model.specs.declared.plan_key.PlanKey.{PlanKey}
use Rattle.pit_model.specs.declared.plan_key.PlanKey.TheVariants as key

-- a requirement: if it is violated, the fault has this kind; if not, the kind of the next violated requirement
abbrev pub Asks : Type 0 → PlanFaultKind → (PlanFaultKind → Type 0) → PlanFaultKind → Type 0
Asks IsSo kind following found = ((¬ IsSo) × (found ≡ kind)) ⊎ (IsSo × following found)

-- no further requirement
abbrev pub NoMore : PlanFaultKind → Type 0
NoMore found = ⊥

-- requirements of a cell: it is a decimal, has at most the allowed decimals, and encodes an allowed value; or it is a NAME
abbrev pub AsksNumber : {A : Type 0} → ℕ → List ℕ → (A → Type 0) → (PlanFaultKind → Type 0) → PlanFaultKind → Type 0
AsksNumber {A} decimals cell Encodes following =
    Asks (IsDecimal cell) Number (Asks (IsFine decimals cell) TooFine (Asks ((x : A) × Encodes x) Range following))

abbrev pub AsksInteger : ℕ → ℕ → List ℕ → (PlanFaultKind → Type 0) → PlanFaultKind → Type 0
AsksInteger low high cell = AsksNumber 0 cell (EncodesInteger low high cell)

abbrev pub AsksOrigin : List ℕ → (PlanFaultKind → Type 0) → PlanFaultKind → Type 0
AsksOrigin cell = AsksNumber 3 cell (EncodesOrigin cell)

abbrev pub AsksSize : List ℕ → (PlanFaultKind → Type 0) → PlanFaultKind → Type 0
AsksSize cell = AsksNumber 3 cell (EncodesSize cell)

abbrev pub AsksTonnes : List ℕ → (PlanFaultKind → Type 0) → PlanFaultKind → Type 0
AsksTonnes cell = AsksNumber 6 cell (EncodesTonnes cell)

abbrev pub AsksName : List ℕ → (PlanFaultKind → Type 0) → PlanFaultKind → Type 0
AsksName cell = Asks ((name : List ℕ) × IsNameOf cell name) Name

-- requirements of a slope
abbrev pub AsksSlope : List ℕ → List ℕ → (PlanFaultKind → Type 0) → PlanFaultKind → Type 0
AsksSlope rise run following = AsksInteger 1 MAX_SLOPE rise (AsksInteger 1 MAX_SLOPE run following)

-- `zone`: its width, its numbers, and that there are fewer zones than the maximum
abbrev pub EqualZoneFails : Stated → List (List ℕ) → PlanFaultKind → Type 0
EqualZoneFails s cells =
    AsksSlope (cell_at cells 1) (cell_at cells 2) (AsksInteger 1 MAX_BENCHES (cell_at cells 3)
    (Asks (length s.cones ≢ MAX_ZONES) TooMany NoMore))

abbrev pub SidedZoneFails : Stated → List (List ℕ) → PlanFaultKind → Type 0
SidedZoneFails s cells =
    AsksSlope (cell_at cells 1) (cell_at cells 2) (AsksSlope (cell_at cells 3) (cell_at cells 4)
    (AsksSlope (cell_at cells 5) (cell_at cells 6) (AsksSlope (cell_at cells 7) (cell_at cells 8)
    (AsksInteger 1 MAX_BENCHES (cell_at cells 9) (Asks (length s.cones ≢ MAX_ZONES) TooMany NoMore)))))

abbrev pub ZoneFails : Stated → List (List ℕ) → PlanFaultKind → Type 0
ZoneFails s cells =
    Asks ((length cells ≡ 4) ⊎ (length cells ≡ 10)) Width
    (λ kind. ((length cells ≡ 4) × EqualZoneFails s cells kind) ⊎ ((length cells ≡ 10) × SidedZoneFails s cells kind))

-- requirements of pairs of a start and a recovery
abbrev pub AsksBands : List (List ℕ) → (PlanFaultKind → Type 0) → PlanFaultKind → Type 0
AsksBands (start ∷ recovery ∷ cells) following =
    AsksNumber 6 start (EncodesNumber 6 (pos 0) (pos MAX_GRADE) start) (AsksInteger 0 MAX_RECOVERY recovery (AsksBands cells following))
AsksBands cells following = following

-- a requirement of the bands that the cells encode
abbrev pub AsksOfBands : List (List ℕ) → (List Band → Type 0) → PlanFaultKind → (PlanFaultKind → Type 0) → PlanFaultKind → Type 0
AsksOfBands cells IsSo = Asks ((bands : List Band) × EncodeBands cells bands × IsSo bands)

-- no destination has the NAME, and there are fewer destinations than the maximum
abbrev pub AsksNew : Stated → List ℕ → (PlanFaultKind → Type 0) → PlanFaultKind → Type 0
AsksNew s name = Asks (destination_named s.formulas name ≡ None) Twice

abbrev pub AsksRoom : Stated → PlanFaultKind → Type 0
AsksRoom s = Asks (length s.formulas ≢ MAX_DESTINATIONS) TooMany NoMore

-- `mill`, `leach`, `dump`
abbrev pub DestinationFails : FormulaKey → Stated → List (List ℕ) → PlanFaultKind → Type 0
DestinationFails formula_key.Mill s cells =
    Asks (length cells ≡ 5) Width (AsksName (cell_at cells 1) (AsksInteger 0 MAX_RECOVERY (cell_at cells 2)
    (AsksInteger 0 MAX_PRICE (cell_at cells 3) (AsksInteger 0 MAX_COST (cell_at cells 4) (AsksNew s (cell_at cells 1) (AsksRoom s))))))
DestinationFails formula_key.Leach s cells =
    Asks ((6 ≤ length cells) × (length cells % 2 ≡ 0)) Width (AsksName (cell_at cells 1) (AsksInteger 0 MAX_PRICE (cell_at cells 2)
    (AsksInteger 0 MAX_COST (cell_at cells 3) (AsksBands (drop 4 cells) (AsksNew s (cell_at cells 1)
    (AsksOfBands (drop 4 cells) (λ bands. starts_rise bands ≡ true) Order
    (AsksOfBands (drop 4 cells) (λ bands. length bands ≤ MAX_BANDS) TooMany (AsksRoom s))))))))
DestinationFails formula_key.Dump s cells =
    Asks (length cells ≡ 3) Width (AsksName (cell_at cells 1) (AsksInteger 0 MAX_COST (cell_at cells 2)
    (AsksNew s (cell_at cells 1) (AsksRoom s))))

-- each of these cells names a destination
abbrev pub AsksNamed : List NamedFormula → List (List ℕ) → (PlanFaultKind → Type 0) → PlanFaultKind → Type 0
AsksNamed formulas [] following = following
AsksNamed formulas (cell ∷ cells) following =
    Asks ((number : ℕ) × (destination_named formulas cell ≡ Some number)) Name (AsksNamed formulas cells following)

-- no resource has the NAME, and no destination is named twice
abbrev pub IsNewResource : Stated → List (List ℕ) → Type 0
IsNewResource s cells =
    (resource_named s.resources (cell_at cells 1) ≡ None)
    × ((covers : List ℕ) × NameDestinations s.formulas (drop 2 cells) covers × (has_repeat covers ≡ false))

-- requirements of a limit: the number of cells for its letter, its letter, and its tonnes
abbrev pub HasLimitWidth : List (List ℕ) → Type 0
HasLimitWidth cells =
    ((cell_at cells 3 ≡ codes "I") × (length cells ≡ 6)) ⊎ ((cell_at cells 3 ≢ codes "I") × (length cells ≡ 5))

abbrev pub HasLetter : List (List ℕ) → Type 0
HasLetter cells = (cell_at cells 3 ≡ codes "L") ⊎ ((cell_at cells 3 ≡ codes "G") ⊎ (cell_at cells 3 ≡ codes "I"))

abbrev pub AsksBound : List (List ℕ) → (PlanFaultKind → Type 0) → PlanFaultKind → Type 0
AsksBound cells following =
    Asks (HasLetter cells) Name (AsksTonnes (cell_at cells 4) (λ kind.
    ((cell_at cells 3 ≡ codes "I") × AsksTonnes (cell_at cells 5) following kind) ⊎ ((cell_at cells 3 ≢ codes "I") × following kind)))

-- a requirement of the limit that the cells encode
abbrev pub AsksOfLimit : Stated → List (List ℕ) → (Limit → Type 0) → PlanFaultKind → (PlanFaultKind → Type 0) → PlanFaultKind → Type 0
AsksOfLimit s cells IsSo = Asks ((l : Limit) × EncodesLimit s cells l × IsSo l)

-- a record with this key is invalid, with this kind
abbrev pub PartFails : PlanKey → Stated → List (List ℕ) → PlanFaultKind → Type 0
PartFails key.Name s cells = Asks (length cells ≡ 2) Width (AsksName (cell_at cells 1) (Asks (s.name ≡ None) Twice NoMore))
PartFails key.Grid s cells =
    Asks (length cells ≡ 7) Width (AsksOrigin (cell_at cells 1) (AsksOrigin (cell_at cells 2) (AsksOrigin (cell_at cells 3)
    (AsksSize (cell_at cells 4) (AsksSize (cell_at cells 5) (AsksSize (cell_at cells 6) (Asks (s.grid ≡ None) Twice NoMore)))))))
PartFails key.Zone s cells = ZoneFails s cells
PartFails (key.Destination k) s cells = DestinationFails k s cells
PartFails key.Periods s cells =
    Asks (length cells ≡ 2) Width (AsksInteger 1 MAX_PERIODS (cell_at cells 1) (Asks (s.periods ≡ None) Twice NoMore))
PartFails key.Rate s cells =
    Asks (length cells ≡ 2) Width (AsksNumber 6 (cell_at cells 1) (EncodesNumber 6 (pos 0) MAX_RATE (cell_at cells 1))
    (Asks (s.rate ≡ None) Twice NoMore))
PartFails key.Resource s cells =
    Asks (3 ≤ length cells) Width (AsksName (cell_at cells 1) (AsksNamed s.formulas (drop 2 cells)
    (Asks (IsNewResource s cells) Twice (Asks (length s.resources ≢ MAX_RESOURCES) TooMany NoMore))))
PartFails key.Limit s cells =
    Asks (HasLimitWidth cells) Width (Asks ((number : ℕ) × (resource_named s.resources (cell_at cells 1) ≡ Some number)) Name
    (AsksNumber 0 (cell_at cells 2) (EncodesBelow (unwrap_or s.periods 0) (cell_at cells 2)) (AsksBound cells
    (AsksOfLimit s cells (λ l. list_any (λ m. is_same_place l m) s.limits ≡ false) Twice
    (AsksOfLimit s cells (λ l. is_turned l.bound ≡ false) Order NoMore)))))

-- a record of these cells is invalid: its first cell must be a key
abbrev pub CellsFail : Stated → List (List ℕ) → PlanFaultKind → Type 0
CellsFail s [] = NoMore
CellsFail s (first ∷ cells) =
    Asks ((k : PlanKey) × IsKey first k) Key (λ kind. (k : PlanKey) × IsKey first k × PartFails k s (first ∷ cells) kind)

-- the record with this number is invalid
abbrev pub RecordFails : ℕ → Stated → List (List ℕ) → PlanFaultKind → Type 0
RecordFails number s cells = Asks (number ≤ MAX_PLAN_RECORDS) TooMany (CellsFail s cells)
