-- What the cells of a record encode, by its key: a grid, a cone, a destination's formula, a resource's destinations, or a bound.
use Rattle.std.specs.Prelude.{◌≡◌, ◌⊎◌, ℕ, ◌≤◌, true, List, [], ◌∷◌, length, drop, pos, Some, codes}
use Rattle.std.specs.List.{AllZip}
use Rattle.pit_units.specs.EncodedNumbers.{EncodesInteger, EncodesNumber}
use Rattle.records.specs.RecordCells.{cell_at}
use Rattle.plan_parts.specs.formulas.BandsInvariant.{starts_rise}
use Rattle.plan_parts.specs.declared.cone.Cone.{Cone}
use Rattle.plan_parts.specs.declared.cone.Slope.{Slope}
use Rattle.plan_parts.specs.declared.formulas.band.Band.{Band}
use Rattle.plan_parts.specs.declared.formulas.formula.Formula.{Formula}
use Rattle.plan_parts.specs.declared.formulas.formula.Formula.TheVariants.{Mill, Leach, Dump}
use Rattle.plan_parts.specs.declared.formulas.formula.NamedFormula.{NamedFormula}
use Rattle.plan_parts.specs.declared.grid.Grid.{Grid}
use Rattle.plan_parts.specs.declared.limit.Bound.{Bound}
use Rattle.plan_parts.specs.declared.limit.Bound.TheVariants.{AtMost, AtLeast, Between}
use Rattle.plan_parts.specs.declared.ranges.TheConstants.{MAX_BANDS, MAX_BENCHES, MAX_COST, MAX_GRADE, MAX_PRICE, MAX_RECOVERY, MAX_SLOPE}
use Rattle.pit_model.specs.EncodedCells.{EncodesOrigin, EncodesSize, EncodesTonnes}
use Rattle.pit_model.specs.Stated.{destination_named}
use Rattle.pit_model.specs.declared.draft.formulas.FormulaKey.{FormulaKey}
use Rattle.pit_model.specs.declared.draft.formulas.FormulaKey.TheVariants as key

-- `grid`: the three coordinates of the origin, and the three sizes of a block
pub record EncodesGrid (cells : List (List ℕ)) (g : Grid) : Type 0 where
  pub seven : length cells ≡ 7
  pub x : EncodesOrigin (cell_at cells 1) g.x.origin
  pub y : EncodesOrigin (cell_at cells 2) g.y.origin
  pub z : EncodesOrigin (cell_at cells 3) g.z.origin
  pub along_x : EncodesSize (cell_at cells 4) g.x.size
  pub along_y : EncodesSize (cell_at cells 5) g.y.size
  pub along_z : EncodesSize (cell_at cells 6) g.z.size

-- a slope: its rise, and its run
abbrev pub EncodesSlope : List ℕ → List ℕ → Slope → Type 0
EncodesSlope rise run s = EncodesInteger 1 MAX_SLOPE rise s.p × EncodesInteger 1 MAX_SLOPE run s.q

-- `zone, p, q, K`: one slope on all sides
pub record EncodesEqualCone (cells : List (List ℕ)) (c : Cone) : Type 0 where
  pub four : length cells ≡ 4
  pub east : EncodesSlope (cell_at cells 1) (cell_at cells 2) c.east
  pub others : (c.west ≡ c.east) × (c.north ≡ c.east) × (c.south ≡ c.east)
  pub k : EncodesInteger 1 MAX_BENCHES (cell_at cells 3) c.k

-- `zone`, p and q for +x, -x, +y and -y, and K
pub record EncodesSidedCone (cells : List (List ℕ)) (c : Cone) : Type 0 where
  pub ten : length cells ≡ 10
  pub east : EncodesSlope (cell_at cells 1) (cell_at cells 2) c.east
  pub west : EncodesSlope (cell_at cells 3) (cell_at cells 4) c.west
  pub north : EncodesSlope (cell_at cells 5) (cell_at cells 6) c.north
  pub south : EncodesSlope (cell_at cells 7) (cell_at cells 8) c.south
  pub k : EncodesInteger 1 MAX_BENCHES (cell_at cells 9) c.k

abbrev pub EncodesCone : List (List ℕ) → Cone → Type 0
EncodesCone cells c = EncodesEqualCone cells c ⊎ EncodesSidedCone cells c

-- pairs of a start and a recovery
abbrev pub EncodesBand : List ℕ → List ℕ → Band → Type 0
EncodesBand start recovery b = EncodesNumber 6 (pos 0) (pos MAX_GRADE) start (pos b.start) × EncodesInteger 0 MAX_RECOVERY recovery b.recovery

abbrev pub EncodeBands : List (List ℕ) → List Band → Type 0
EncodeBands [] [] = Unit {0}
EncodeBands (start ∷ recovery ∷ cells) (band ∷ bands) = EncodesBand start recovery band × EncodeBands cells bands
EncodeBands cells bands = ⊥

-- `mill, NAME, recovery, price, cost`; `leach, NAME, price, cost`, and 1 to 16 bands, whose starts rise; `dump, NAME, cost`
abbrev pub EncodesFormula : FormulaKey → List (List ℕ) → Formula → Type 0
EncodesFormula key.Mill cells (Mill recovery price cost) =
    (length cells ≡ 5) × EncodesInteger 0 MAX_RECOVERY (cell_at cells 2) recovery
    × EncodesInteger 0 MAX_PRICE (cell_at cells 3) price × EncodesInteger 0 MAX_COST (cell_at cells 4) cost
EncodesFormula key.Leach cells (Leach bands price cost) =
    EncodesInteger 0 MAX_PRICE (cell_at cells 2) price × EncodesInteger 0 MAX_COST (cell_at cells 3) cost × EncodeBands (drop 4 cells) bands
    × (1 ≤ length bands) × (length bands ≤ MAX_BANDS) × (starts_rise bands ≡ true)
EncodesFormula key.Dump cells (Dump cost) = (length cells ≡ 3) × EncodesInteger 0 MAX_COST (cell_at cells 2) cost
EncodesFormula k cells formula = ⊥

-- the destinations of this list that the cells name
abbrev pub NameDestinations : List NamedFormula → List (List ℕ) → List ℕ → Type 0
NameDestinations formulas = AllZip (λ cell number. destination_named formulas cell ≡ Some number)

-- `limit, NAME, period, letter, v`, and w if the letter is I
abbrev pub EncodesBound : List (List ℕ) → Bound → Type 0
EncodesBound cells (AtMost v) = (length cells ≡ 5) × (cell_at cells 3 ≡ codes "L") × EncodesTonnes (cell_at cells 4) v
EncodesBound cells (AtLeast v) = (length cells ≡ 5) × (cell_at cells 3 ≡ codes "G") × EncodesTonnes (cell_at cells 4) v
EncodesBound cells (Between v w) =
    (length cells ≡ 6) × (cell_at cells 3 ≡ codes "I") × EncodesTonnes (cell_at cells 4) v × EncodesTonnes (cell_at cells 5) w
