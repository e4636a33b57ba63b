-- The invariant of a leach's bands, and the equality of two lists of bands.
use Rattle.std.specs.Prelude.{◌≡◌, ◌≤◌, Bool, true, ◌&&◌, ◌==◌, nat_lt, List, [], ◌∷◌, length, All}
use Rattle.std.specs.Cmp.Lexicographic.{pointwise}
use Rattle.plan_parts.specs.declared.formulas.band.Band.{Band}
use Rattle.plan_parts.specs.declared.ranges.TheConstants.{MAX_BANDS, MAX_GRADE, MAX_RECOVERY}

-- a start of at most 10^12 millionths of a gram per tonne, a recovery of at most 1000 per mille
abbrev pub IsBand : Band → Type 0
IsBand b = (b.start ≤ MAX_GRADE) × (b.recovery ≤ MAX_RECOVERY)

-- each band begins above the band before it
abbrev pub starts_rise : List Band → Bool
starts_rise [] = true
starts_rise (b ∷ []) = true
starts_rise (b ∷ (c ∷ bands)) = nat_lt b.start c.start && starts_rise (c ∷ bands)

-- 1 to 16 bands in range, in strictly ascending order of their starts
pub record AreBands (bands : List Band) : Type 0 where
  pub count : (1 ≤ length bands) × (length bands ≤ MAX_BANDS)
  pub in_range : All IsBand bands
  pub rising : starts_rise bands ≡ true

-- whether two bands are the same
abbrev pub band_eq : Band → Band → Bool
band_eq b c = (b.start == c.start) && (b.recovery == c.recovery)

-- whether two lists have the same bands in the same order
abbrev pub bands_eq : List Band → List Band → Bool
bands_eq = pointwise band_eq
