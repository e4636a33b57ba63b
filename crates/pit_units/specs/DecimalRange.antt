-- The range of decimals.
use Rattle.std.specs.Prelude.{◌≤◌, ℤ, unsigned_abs}
use Rattle.pit_units.specs.declared.decimal.TheConstants.{MAX_MILLIONTHS}

-- a decimal: at most 10^24 millionths either side of zero
abbrev pub IsInDecimalRange : ℤ → Type 0
IsInDecimalRange z = unsigned_abs z ≤ MAX_MILLIONTHS
