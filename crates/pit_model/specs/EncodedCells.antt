-- What a cell of a plan's record encodes.
use Rattle.std.specs.Prelude.{◌≡◌, ℕ, ◌*◌, ◌≤◌, true, List, ℤ, pos, ◌*ℤ◌, ◌≤ℤ◌}
use Rattle.pit_units.specs.EncodedNumbers.{EncodesNumber}
use Rattle.pit_units.specs.StandsFor.{StandsFor}
use Rattle.plan_parts.specs.Name.{is_name}
use Rattle.plan_parts.specs.declared.ranges.TheConstants.{MAX_ORIGIN, MAX_SIZE, MAX_TONNES, MIN_ORIGIN}

-- an origin and the size of a block, in millimetres
abbrev pub EncodesOrigin : List ℕ → ℤ → Type 0
EncodesOrigin cell mm = StandsFor 3 cell (mm *ℤ pos 1000) × (MIN_ORIGIN ≤ℤ mm) × (mm ≤ℤ MAX_ORIGIN)

abbrev pub EncodesSize : List ℕ → ℕ → Type 0
EncodesSize cell mm = StandsFor 3 cell (pos (mm * 1000)) × (1 ≤ mm) × (mm ≤ MAX_SIZE)

-- tonnes, in millionths
abbrev pub EncodesTonnes : List ℕ → ℤ → Type 0
EncodesTonnes = EncodesNumber 6 (pos 0) MAX_TONNES

-- a NAME
abbrev pub IsNameOf : List ℕ → List ℕ → Type 0
IsNameOf cell name = (is_name cell ≡ true) × (name ≡ cell)
