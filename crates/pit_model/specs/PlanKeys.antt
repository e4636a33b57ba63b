-- The keys of a plan's records: the subject that a record's first cell names, in upper or lower case.
use Rattle.std.specs.Prelude.{◌≡◌, ℕ, true, List, Option, Some, None, codes, if◌then◌else◌}
use Rattle.std.specs.Option.{option_map}
use Rattle.records.specs.Cells.{is_word}
use Rattle.pit_model.specs.declared.draft.formulas.FormulaKey.{FormulaKey}
use Rattle.pit_model.specs.declared.draft.formulas.FormulaKey.TheVariants.{Mill, Leach, Dump}
use Rattle.pit_model.specs.declared.plan_key.PlanKey.{PlanKey}
use Rattle.pit_model.specs.declared.plan_key.PlanKey.TheVariants.{Name, Grid, Zone, Periods, Rate, Resource, Limit, Destination}

-- the word of a formula, and the word of a key
abbrev pub formula_word : FormulaKey → List ℕ
formula_word Mill = codes "mill"
formula_word Leach = codes "leach"
formula_word Dump = codes "dump"

abbrev pub key_word : PlanKey → List ℕ
key_word Name = codes "name"
key_word Grid = codes "grid"
key_word Zone = codes "zone"
key_word (Destination k) = formula_word k
key_word Periods = codes "periods"
key_word Rate = codes "rate"
key_word Resource = codes "resource"
key_word Limit = codes "limit"

-- the cell is this key's word
abbrev pub IsKey : List ℕ → PlanKey → Type 0
IsKey cell k = is_word cell (key_word k) ≡ true

-- the formula whose key is this cell
abbrev pub formula_key_of : List ℕ → Option FormulaKey
formula_key_of cell =
    if is_word cell (formula_word Mill) then Some Mill
    else (if is_word cell (formula_word Leach) then Some Leach
    else (if is_word cell (formula_word Dump) then Some Dump
    else None))

-- the key that this cell is
abbrev pub key_of : List ℕ → Option PlanKey
key_of cell =
    if is_word cell (key_word Name) then Some Name
    else (if is_word cell (key_word Grid) then Some Grid
    else (if is_word cell (key_word Zone) then Some Zone
    else (if is_word cell (key_word Periods) then Some Periods
    else (if is_word cell (key_word Rate) then Some Rate
    else (if is_word cell (key_word Resource) then Some Resource
    else (if is_word cell (key_word Limit) then Some Limit
    else option_map Destination (formula_key_of cell)))))))
