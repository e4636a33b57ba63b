-- The number of identifiers in lists, counted by the rows of the cones.
use Rattle.std.specs.Prelude.{◌≡◌, ℕ, ◌+◌, ◌-◌, ◌==◌, ◌≤◌, Bool, List, [], ◌∷◌, length, nat_lt, slice_index, if◌then◌else◌}
use Rattle.precedence.specs.inner.Rows.{start_of}
use Rattle.precedence.specs.declared.cones.cone_rows.Row.{Row}
use Rattle.precedence.specs.declared.lists.row_ranges.Hint.{Hint}

-- the number of codes in a row, as seen from a code
abbrev pub count_in : List ℕ → Row → ℕ → ℕ
count_in codes row from = start_of (from + row.past) codes - start_of (from + row.first) codes

-- `found` has the identifier of the first of these codes, and the end (exclusive)
pub record IsRangeOf (codes : List ℕ) (from : ℕ) (row : Row) (found : Hint) : Type 0 where
  pub first : found.first ≡ start_of (from + row.first) codes
  pub past : found.past ≡ start_of (from + row.past) codes
  pub in_order : found.first ≤ found.past
  pub in_codes : found.past ≤ length codes

-- the start of the codes from a target on moves by 1 for each of `steps` steps of the target, or stays
abbrev pub Continues : List ℕ → (target start steps : ℕ) (moves : Bool) → Type 0
Continues codes target start steps moves = (t : ℕ) → t ≤ steps → start_of (target + t) codes ≡ start + (if moves then t else 0)

-- the codes of the blocks whose cone has the table, by the zones and codes of all blocks
abbrev pub codes_with : List ℕ → ℕ → List ℕ → List ℕ → List ℕ
codes_with of_zone table [] codes = []
codes_with of_zone table (z ∷ zones) [] = []
codes_with of_zone table (z ∷ zones) (c ∷ codes) =
    if slice_index of_zone z == table then c ∷ codes_with of_zone table zones codes else codes_with of_zone table zones codes

-- the number of identifiers in the lists of the blocks whose cone has one of the first `tables` tables
abbrev pub arcs_before : (ℕ → ℕ → List ℕ) → List ℕ → ℕ → List ℕ → List ℕ → ℕ
arcs_before list of_zone tables [] codes = 0
arcs_before list of_zone tables (z ∷ zones) [] = 0
arcs_before list of_zone tables (z ∷ zones) (c ∷ codes) =
    (if nat_lt (slice_index of_zone z) tables then length (list z c) else 0) + arcs_before list of_zone tables zones codes
