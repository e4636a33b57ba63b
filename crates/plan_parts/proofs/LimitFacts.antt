-- The bounds that some tonnes satisfy, and the order of limits.
use Rattle.std.proofs.Common.{◌≡◌, ◌<◌, ◌↔◌, IsTrue, false, not, arith, refl}
use Rattle.std.proofs.lemmas.Bool.Decides.{nat_tests}
use Rattle.std.proofs.lemmas.Int.{ints}
use Rattle.std.specs.Prelude.{ℤ, ◌≤ℤ◌, int_le}
use Rattle.plan_parts.specs.PartLaws.{place_of, KeepsBound}
use Rattle.plan_parts.specs.PlanInvariant.{is_turned, stands_before}
use Rattle.plan_parts.specs.declared.limit.Bound.{Bound}
use Rattle.plan_parts.specs.declared.limit.Bound.TheVariants.{AtMost, AtLeast, Between}
use Rattle.plan_parts.specs.declared.limit.Limit.{Limit}
use Rattle.plan_parts.specs.declared.ranges.TheConstants.{MAX_PERIODS}

same_le : (v : ℤ) → v ≤ℤ v
same_le v = omega (arith, ints)

in_order : (v w : ℤ) → not (int_le v w) ≡ false → v ≤ℤ w
in_order v w h = grind (arith, ints)

turns_not : (v w t : ℤ) → v ≤ℤ t → t ≤ℤ w → not (int_le v w) ≡ false
turns_not v w t low high = grind (arith, ints)

pub kept_by : (b : Bound) → is_turned b ≡ false → (tonnes : ℤ) × KeepsBound b tonnes
kept_by (AtMost v) h = (v, same_le v)
kept_by (AtLeast v) h = (v, same_le v)
kept_by (Between v w) h = (v, (same_le v, in_order v w h))

pub straight : (b : Bound) → (tonnes : ℤ) × KeepsBound b tonnes → is_turned b ≡ false
straight (AtMost v) kept = refl
straight (AtLeast v) kept = refl
straight (Between v w) (tonnes, within) = turns_not v w tonnes within.0 within.1

pub by_place : (l m : Limit) → l.period < MAX_PERIODS → m.period < MAX_PERIODS → IsTrue (stands_before l m) ↔ (place_of l < place_of m)
by_place l m first second = (λ h. grind (arith, nat_tests), λ h. grind (arith, nat_tests))
