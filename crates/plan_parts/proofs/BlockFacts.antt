-- A block is determined by its fields, and has given fields that are in range.
use Rattle.std.specs.Prelude.{◌≡◌, ℕ, ◌<◌, ◌≤◌, ◌^◌, min}
use Rattle.std.proofs.Common.{subst, arith}
use Rattle.std.proofs.Math.Bridge.{le_prop}
use Rattle.std.proofs.Math.Nat.{min-le_right}
use Rattle.plan_parts.specs.Block.{block_with, smallest_below}
use Rattle.plan_parts.specs.BlockParts.{AreInRange, HasParts}
use Rattle.plan_parts.specs.declared.block.Block.{Block}

-- a number with a proof that it is in range; the proof does not matter
kept_same : (InRange : ℕ → Type 0) → ((k : ℕ) (p q : InRange k) → p ≡ q) → (m n : ℕ) → m ≡ n → (p : InRange m) (q : InRange n)
    → ◌≡◌ {A = (k : ℕ) × InRange k} (m, p) (n, q)
kept_same InRange one m n same p q =
    subst (λ k. (q : InRange k) → ◌≡◌ {A = (k : ℕ) × InRange k} (m, p) (k, q)) same (λ q i. (m, one m p q i)) q

below_same : (limit m n : ℕ) → m ≡ n → (p : m < limit) (q : n < limit) → ◌≡◌ {A = (k : ℕ) × (k < limit)} (m, p) (n, q)
below_same limit = kept_same (λ k. k < limit) (λ k p q. le_prop p q)

within_same : (most m n : ℕ) → m ≡ n → (p : m ≤ most) (q : n ≤ most) → ◌≡◌ {A = (k : ℕ) × (k ≤ most)} (m, p) (n, q)
within_same most = kept_same (λ k. k ≤ most) (λ k p q. le_prop p q)

pub block_again : (b : Block) → block_with b.x b.y b.z b.kg b.grade b.zone ≡ b
unfolding block_with
block_again b =
    let x = below_same 10000 (min b.x 9999) b.x (omega (arith, b.x_in_grid)) (smallest_below b.x 9999) b.x_in_grid in
    let y = below_same 10000 (min b.y 9999) b.y (omega (arith, b.y_in_grid)) (smallest_below b.y 9999) b.y_in_grid in
    let z = below_same 10000 (min b.z 9999) b.z (omega (arith, b.z_in_grid)) (smallest_below b.z 9999) b.z_in_grid in
    let kg = within_same (10 ^ 9) (min b.kg (10 ^ 9)) b.kg (omega (arith, b.kg_in_range)) (min-le_right b.kg (10 ^ 9)) b.kg_in_range in
    let grade = within_same (10 ^ 12) (min b.grade (10 ^ 12)) b.grade (omega (arith, b.grade_in_range)) (min-le_right b.grade (10 ^ 12)) b.grade_in_range in
    let zone = below_same 64 (min b.zone 63) b.zone (omega (arith, b.zone_in_range)) (smallest_below b.zone 63) b.zone_in_range in
    λ i. record {
      x = (x i).0;
      y = (y i).0;
      z = (z i).0;
      kg = (kg i).0;
      grade = (grade i).0;
      zone = (zone i).0;
      x_in_grid = (x i).1;
      y_in_grid = (y i).1;
      z_in_grid = (z i).1;
      kg_in_range = (kg i).1;
      grade_in_range = (grade i).1;
      zone_in_range = (zone i).1;
    }

pub block_parts : (x y z kg grade zone : ℕ) → AreInRange x y z kg grade zone → HasParts x y z kg grade zone (block_with x y z kg grade zone)
unfolding block_with
block_parts x y z kg grade zone (in_x, in_y, in_z, in_kg, in_grade, in_zone) =
    (omega (arith, in_x), omega (arith, in_y), omega (arith, in_z), omega (arith, in_kg), omega (arith, in_grade), omega (arith, in_zone))
