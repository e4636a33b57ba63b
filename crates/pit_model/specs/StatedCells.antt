-- What a cell of a plan's record states, or its fault.
use Rattle.std.specs.Prelude.{ℕ, ◌*◌, ◌/◌, ◌^◌, List, ℤ, pos, ◌*ℤ◌, ◌-ℤ◌, int_div, unsigned_abs, Option, Some, None, Result, Ok, Err, if◌then◌else◌}
use Rattle.pit_units.specs.Steps.{◌>>=◌}
use Rattle.pit_units.specs.Decimal.{decimal_within}
use Rattle.pit_units.specs.declared.fault.DecFault.{DecFault}
use Rattle.pit_units.specs.declared.fault.DecFault.TheVariants as dec
use Rattle.plan_parts.specs.Name.{is_name}
use Rattle.pit_model.specs.declared.plan_fault.PlanFaultKind.{PlanFaultKind}
use Rattle.pit_model.specs.declared.plan_fault.PlanFaultKind.TheVariants.{Number, TooFine, Range, Name}
use Rattle.plan_parts.specs.declared.ranges.TheConstants.{MAX_ORIGIN, MAX_SIZE, MAX_TONNES, MIN_ORIGIN}

-- the millionths of a decimal, or the fault's kind in a plan
abbrev pub number_in_cell : Result ℤ DecFault → Result ℤ PlanFaultKind
number_in_cell (Ok m) = Ok m
number_in_cell (Err dec.Number) = Err Number
number_in_cell (Err dec.TooFine) = Err TooFine
number_in_cell (Err dec.Range) = Err Range

-- a number with up to `decimals` decimals, from `low` to `high` millionths
abbrev pub number_in : ℕ → ℤ → ℤ → List ℕ → Result ℤ PlanFaultKind
number_in decimals low high cell = number_in_cell (decimal_within decimals low high cell)

-- an integer from `low` to `high`, and an integer below `limit`
abbrev pub integer_in : ℕ → ℕ → List ℕ → Result ℕ PlanFaultKind
integer_in low high cell = number_in 0 (pos (low * 10 ^ 6)) (pos (high * 10 ^ 6)) cell >>= λ m. Ok (unsigned_abs m / 10 ^ 6)

abbrev pub below_in : ℕ → List ℕ → Result ℕ PlanFaultKind
below_in limit cell = number_in 0 (pos 0) (pos (limit * 10 ^ 6) -ℤ pos 1) cell >>= λ m. Ok (unsigned_abs m / 10 ^ 6)

-- an origin, -10^12 to 10^12 mm, and the size of a block, 1 to 100,000 mm: metres with three decimals, as millimetres
abbrev pub origin_in : List ℕ → Result ℤ PlanFaultKind
origin_in cell = number_in 3 (MIN_ORIGIN *ℤ pos 1000) (MAX_ORIGIN *ℤ pos 1000) cell >>= λ m. Ok (int_div m (pos 1000))

abbrev pub size_in : List ℕ → Result ℕ PlanFaultKind
size_in cell = number_in 3 (pos 1000) (pos (MAX_SIZE * 1000)) cell >>= λ m. Ok (unsigned_abs m / 1000)

-- tonnes, 0 to 10^12 with six decimals
abbrev pub tonnes_in : List ℕ → Result ℤ PlanFaultKind
tonnes_in cell = number_in 6 (pos 0) MAX_TONNES cell

-- a NAME, and the number of what the NAME names
abbrev pub name_in : List ℕ → Result (List ℕ) PlanFaultKind
name_in cell = if is_name cell then Ok cell else Err Name

abbrev pub number_of : Option ℕ → Result ℕ PlanFaultKind
number_of (Some n) = Ok n
number_of None = Err Name
