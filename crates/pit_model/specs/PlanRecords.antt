-- What a record of a plan adds to earlier records, cell by cell, or its first fault.
use Rattle.std.specs.Prelude.{ℕ, ◌==◌, ◌||◌, not, nat_lt, Bool, List, [], ◌∷◌, length, drop, ℤ, pos, Option, Some, None, is_some, unwrap_or, codes, Result, Ok, Err, if◌then◌else◌}
use Rattle.std.specs.List.{list_any}
use Rattle.std.specs.Str.{bytes_eq}
use Rattle.pit_units.specs.Steps.{◌>>=◌}
use Rattle.records.specs.RecordCells.{cell_at}
use Rattle.plan_parts.specs.PlanInvariant.{has_repeat, is_turned}
use Rattle.pit_model.specs.DestinationRecords.{destination_record}
use Rattle.pit_model.specs.PlanKeys.{key_of}
use Rattle.pit_model.specs.Stated.{Stated, destination_named, resource_named, with_zone, with_resource, is_same_place, with_limit}
use Rattle.pit_model.specs.StatedCells.{below_in, integer_in, name_in, number_in, number_of, origin_in, size_in, tonnes_in}
use Rattle.plan_parts.specs.declared.cone.Cone.{Cone}
use Rattle.plan_parts.specs.declared.cone.Slope.{Slope}
use Rattle.plan_parts.specs.declared.formulas.formula.NamedFormula.{NamedFormula}
use Rattle.plan_parts.specs.declared.grid.Grid.{Grid}
use Rattle.plan_parts.specs.declared.limit.Bound.{Bound}
use Rattle.plan_parts.specs.declared.limit.Bound.TheVariants.{AtMost, AtLeast, Between}
use Rattle.plan_parts.specs.declared.limit.Limit.{Limit}
use Rattle.pit_model.specs.declared.plan_fault.PlanFaultKind.{PlanFaultKind}
use Rattle.pit_model.specs.declared.plan_fault.PlanFaultKind.TheVariants.{Key, Width, Name, Twice, Order, TooMany}
use Rattle.pit_model.specs.declared.plan_key.PlanKey.{PlanKey}
use Rattle.pit_model.specs.declared.plan_key.PlanKey.TheVariants as key
use Rattle.plan_parts.specs.declared.ranges.TheConstants.{MAX_BENCHES, MAX_PERIODS, MAX_RATE, MAX_RESOURCES, MAX_SLOPE, MAX_ZONES}

-- `name, NAME`
abbrev pub name_record : Stated → List (List ℕ) → Result Stated PlanFaultKind
name_record s cells =
    if not (length cells == 2) then Err Width else do
      name ← name_in (cell_at cells 1)
      if is_some s.name then Err Twice else Ok (record s { name = Some name })

-- `grid`, the origin's three coordinates, the three sizes of a block
abbrev pub grid_by : ℤ → ℤ → ℤ → ℕ → ℕ → ℕ → Grid
grid_by x y z along_x along_y along_z =
    record { x = record { origin = x; size = along_x }; y = record { origin = y; size = along_y }; z = record { origin = z; size = along_z } }

abbrev pub grid_record : Stated → List (List ℕ) → Result Stated PlanFaultKind
grid_record s cells =
    if not (length cells == 7) then Err Width else do
      x ← origin_in (cell_at cells 1)
      y ← origin_in (cell_at cells 2)
      z ← origin_in (cell_at cells 3)
      along_x ← size_in (cell_at cells 4)
      along_y ← size_in (cell_at cells 5)
      along_z ← size_in (cell_at cells 6)
      if is_some s.grid then Err Twice else Ok (record s { grid = Some (grid_by x y z along_x along_y along_z) })

-- `zone, p, q, K`, with one slope for all four sides; or p and q for +x, -x, +y and -y, and K. p and q are 1 to 1000, K is 1 to 20,
-- and there are at most 64 zones
abbrev pub slope_in : List ℕ → List ℕ → Result Slope PlanFaultKind
slope_in rise run = do
  p ← integer_in 1 MAX_SLOPE rise
  q ← integer_in 1 MAX_SLOPE run
  Ok (record { p = p; q = q })

abbrev pub zone_more : Stated → Cone → Result Stated PlanFaultKind
zone_more s cone = if length s.cones == MAX_ZONES then Err TooMany else Ok (with_zone s cone)

abbrev pub equal_zone : Stated → List (List ℕ) → Result Stated PlanFaultKind
equal_zone s cells = do
  slope ← slope_in (cell_at cells 1) (cell_at cells 2)
  k ← integer_in 1 MAX_BENCHES (cell_at cells 3)
  zone_more s (record { east = slope; west = slope; north = slope; south = slope; k = k })

abbrev pub sided_zone : Stated → List (List ℕ) → Result Stated PlanFaultKind
sided_zone s cells = do
  east ← slope_in (cell_at cells 1) (cell_at cells 2)
  west ← slope_in (cell_at cells 3) (cell_at cells 4)
  north ← slope_in (cell_at cells 5) (cell_at cells 6)
  south ← slope_in (cell_at cells 7) (cell_at cells 8)
  k ← integer_in 1 MAX_BENCHES (cell_at cells 9)
  zone_more s (record { east = east; west = west; north = north; south = south; k = k })

abbrev pub zone_record : Stated → List (List ℕ) → Result Stated PlanFaultKind
zone_record s cells =
    if length cells == 4 then equal_zone s cells else (if length cells == 10 then sided_zone s cells else Err Width)

-- `periods, number`, 1 to 100
abbrev pub periods_record : Stated → List (List ℕ) → Result Stated PlanFaultKind
periods_record s cells =
    if not (length cells == 2) then Err Width else do
      periods ← integer_in 1 MAX_PERIODS (cell_at cells 1)
      if is_some s.periods then Err Twice else Ok (record s { periods = Some periods })

-- `rate, number`, 0 to 1 with six decimals
abbrev pub rate_record : Stated → List (List ℕ) → Result Stated PlanFaultKind
rate_record s cells =
    if not (length cells == 2) then Err Width else do
      rate ← number_in 6 (pos 0) MAX_RATE (cell_at cells 1)
      if is_some s.rate then Err Twice else Ok (record s { rate = Some rate })

-- `resource, NAME`, and the NAMEs of one or more earlier destinations, none twice; at most 8 resources
abbrev pub covers_in : List NamedFormula → List (List ℕ) → Result (List ℕ) PlanFaultKind
covers_in formulas [] = Ok []
covers_in formulas (cell ∷ cells) = do
  number ← number_of (destination_named formulas cell)
  numbers ← covers_in formulas cells
  Ok (number ∷ numbers)

abbrev pub resource_more : Stated → List ℕ → List ℕ → Result Stated PlanFaultKind
resource_more s name covers =
    if is_some (resource_named s.resources name) || has_repeat covers then Err Twice
    else (if length s.resources == MAX_RESOURCES then Err TooMany else Ok (with_resource s name covers))

abbrev pub resource_record : Stated → List (List ℕ) → Result Stated PlanFaultKind
resource_record s cells =
    if nat_lt (length cells) 3 then Err Width else do
      name ← name_in (cell_at cells 1)
      covers ← covers_in s.formulas (drop 2 cells)
      resource_more s name covers

-- `limit, NAME of an earlier resource, period, letter, v`, and w if the letter is I; letters must be upper case
abbrev pub is_letter : List (List ℕ) → List ℕ → Bool
is_letter cells letter = bytes_eq (cell_at cells 3) letter

abbrev pub bound_in : List (List ℕ) → Result Bound PlanFaultKind
bound_in cells =
    if is_letter cells (codes "I") then (tonnes_in (cell_at cells 4) >>= λ v. tonnes_in (cell_at cells 5) >>= λ w. Ok (Between v w))
    else (if is_letter cells (codes "L") then (tonnes_in (cell_at cells 4) >>= λ v. Ok (AtMost v))
    else (if is_letter cells (codes "G") then (tonnes_in (cell_at cells 4) >>= λ v. Ok (AtLeast v))
    else Err Name))

-- at most one limit for a resource and period, with its ends in order
abbrev pub limit_more : Stated → Limit → Result Stated PlanFaultKind
limit_more s l =
    if list_any (λ m. is_same_place l m) s.limits then Err Twice
    else (if is_turned l.bound then Err Order else Ok (record s { limits = with_limit l s.limits }))

-- before the record `periods`, no period is in range
abbrev pub limit_record : Stated → List (List ℕ) → Result Stated PlanFaultKind
limit_record s cells =
    if not (length cells == (if is_letter cells (codes "I") then 6 else 5)) then Err Width else do
      resource ← number_of (resource_named s.resources (cell_at cells 1))
      period ← below_in (unwrap_or s.periods 0) (cell_at cells 2)
      bound ← bound_in cells
      limit_more s (record { resource = resource; period = period; bound = bound })

-- the record, by its key
abbrev pub key_record : Option PlanKey → Stated → List (List ℕ) → Result Stated PlanFaultKind
key_record None s cells = Err Key
key_record (Some key.Name) s cells = name_record s cells
key_record (Some key.Grid) s cells = grid_record s cells
key_record (Some key.Zone) s cells = zone_record s cells
key_record (Some (key.Destination k)) s cells = destination_record k s cells
key_record (Some key.Periods) s cells = periods_record s cells
key_record (Some key.Rate) s cells = rate_record s cells
key_record (Some key.Resource) s cells = resource_record s cells
key_record (Some key.Limit) s cells = limit_record s cells

-- a record of these cells; a record without cells states nothing
abbrev pub record_of : Stated → List (List ℕ) → Result Stated PlanFaultKind
record_of s cells = if length cells == 0 then Ok s else key_record (key_of (cell_at cells 0)) s cells
