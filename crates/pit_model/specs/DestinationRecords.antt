-- What the record of a destination (a mill, a leach or a dump) states, cell by cell, or its first fault.
use Rattle.std.specs.Prelude.{ℕ, ◌%◌, ◌==◌, ◌||◌, not, nat_le, nat_lt, List, [], ◌∷◌, length, drop, pos, unsigned_abs, is_some, Result, Ok, Err, if◌then◌else◌}
use Rattle.pit_units.specs.Steps.{◌>>=◌}
use Rattle.records.specs.RecordCells.{cell_at}
use Rattle.plan_parts.specs.formulas.BandsInvariant.{starts_rise}
use Rattle.pit_model.specs.Stated.{Stated, destination_named, with_destination}
use Rattle.pit_model.specs.StatedCells.{integer_in, name_in, number_in}
use Rattle.plan_parts.specs.declared.formulas.band.Band.{Band}
use Rattle.pit_model.specs.declared.draft.formulas.FormulaKey.{FormulaKey}
use Rattle.pit_model.specs.declared.draft.formulas.FormulaKey.TheVariants as key
use Rattle.plan_parts.specs.declared.formulas.formula.Formula.{Formula}
use Rattle.plan_parts.specs.declared.formulas.formula.Formula.TheVariants.{Mill, Leach, Dump}
use Rattle.pit_model.specs.declared.plan_fault.PlanFaultKind.{PlanFaultKind}
use Rattle.pit_model.specs.declared.plan_fault.PlanFaultKind.TheVariants.{Width, Twice, Order, TooMany}
use Rattle.plan_parts.specs.declared.ranges.TheConstants.{MAX_BANDS, MAX_COST, MAX_DESTINATIONS, MAX_GRADE, MAX_PRICE, MAX_RECOVERY}

-- a recovery of 0 to 1000 per mille, a price of 0 to 10^8 cents a kilogram, a cost of 0 to 10^7 cents a tonne
abbrev pub recovery_in : List ℕ → Result ℕ PlanFaultKind
recovery_in cell = integer_in 0 MAX_RECOVERY cell

abbrev pub price_in : List ℕ → Result ℕ PlanFaultKind
price_in cell = integer_in 0 MAX_PRICE cell

abbrev pub cost_in : List ℕ → Result ℕ PlanFaultKind
cost_in cell = integer_in 0 MAX_COST cell

-- pairs of a start, 0 to 1,000,000 g/t with six decimals, and a recovery. The width of a record excludes a single last cell
abbrev pub band_in : List ℕ → List ℕ → Result Band PlanFaultKind
band_in start recovery = do
  from ← number_in 6 (pos 0) (pos MAX_GRADE) start
  part ← recovery_in recovery
  Ok (record { start = unsigned_abs from; recovery = part })

abbrev pub bands_in : List (List ℕ) → Result (List Band) PlanFaultKind
bands_in (start ∷ recovery ∷ cells) = do
  band ← band_in start recovery
  bands ← bands_in cells
  Ok (band ∷ bands)
bands_in cells = Ok []

-- the plan with another destination, up to 8
abbrev pub destination_more : Stated → List ℕ → Formula → Result Stated PlanFaultKind
destination_more s name formula = if length s.formulas == MAX_DESTINATIONS then Err TooMany else Ok (with_destination s name formula)

-- the same, for a NAME that no destination has yet
abbrev pub fresh_destination : Stated → List ℕ → Formula → Result Stated PlanFaultKind
fresh_destination s name formula = if is_some (destination_named s.formulas name) then Err Twice else destination_more s name formula

-- the bands, if their starts rise and they are at most 16
abbrev pub rising : List Band → Result (List Band) PlanFaultKind
rising bands = if not (starts_rise bands) then Err Order else (if not (nat_le (length bands) MAX_BANDS) then Err TooMany else Ok bands)

abbrev pub fresh_leach : Stated → List ℕ → List Band → ℕ → ℕ → Result Stated PlanFaultKind
fresh_leach s name bands price cost =
    if is_some (destination_named s.formulas name) then Err Twice
    else (rising bands >>= λ bands. destination_more s name (Leach bands price cost))

-- `mill, NAME, recovery, price, cost`; `leach, NAME, price, cost`, and one or more bands; `dump, NAME, cost`
abbrev pub destination_record : FormulaKey → Stated → List (List ℕ) → Result Stated PlanFaultKind
destination_record key.Mill s cells =
    if not (length cells == 5) then Err Width else do
      name ← name_in (cell_at cells 1)
      recovery ← recovery_in (cell_at cells 2)
      price ← price_in (cell_at cells 3)
      cost ← cost_in (cell_at cells 4)
      fresh_destination s name (Mill recovery price cost)
destination_record key.Leach s cells =
    if nat_lt (length cells) 6 || not (length cells % 2 == 0) then Err Width else do
      name ← name_in (cell_at cells 1)
      price ← price_in (cell_at cells 2)
      cost ← cost_in (cell_at cells 3)
      bands ← bands_in (drop 4 cells)
      fresh_leach s name bands price cost
destination_record key.Dump s cells =
    if not (length cells == 3) then Err Width else do
      name ← name_in (cell_at cells 1)
      cost ← cost_in (cell_at cells 2)
      fresh_destination s name (Dump cost)
