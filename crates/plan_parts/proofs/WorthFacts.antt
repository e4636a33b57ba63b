-- Floors, and the ranges of worths.
use Rattle.std.proofs.Common.{◌≡◌, ◌<◌, ◌≤◌, ℕ, zero, suc, add-one, ◌+◌, ◌*◌, ◌/◌, ◌^◌, List, [], ◌∷◌, Bool, true, false, cond, Option, Some, None, arith, sym, ap, nat_le, All}
use Rattle.std.proofs.Math.Nat.{div-div-eq-div-mul, div-eq_of_lt-le, suc-mul}
use Rattle.std.proofs.lemmas.Int.{ints}
use Rattle.std.proofs.lemmas.Nat.{mul-le, div-add-mod', mod_below}
use Rattle.std.specs.Prelude.{ℤ, pos, negsuc, ◌+ℤ◌, ◌-ℤ◌, ◌*ℤ◌, ◌≤ℤ◌, neg_ℤ, unsigned_abs}
use Rattle.std.specs.List.{filter, last_or}
use Rattle.std.specs.Option.{option_map_or}
use Rattle.plan_parts.specs.formulas.Bands.{recovery_at}
use Rattle.plan_parts.specs.formulas.BandsInvariant.{IsBand}
use Rattle.plan_parts.specs.PartLaws.{Earns}
use Rattle.plan_parts.specs.formulas.Formula.{IsFormulaInRange}
use Rattle.plan_parts.specs.formulas.Worth.{floor, worth}
use Rattle.plan_parts.specs.formulas.WorthRange.{IsFloor, IsWorth}
use Rattle.plan_parts.specs.declared.formulas.band.Band.{Band}
use Rattle.plan_parts.specs.declared.block.Block.{Block}
use Rattle.plan_parts.specs.declared.formulas.formula.Formula.{Formula}
use Rattle.plan_parts.specs.declared.formulas.formula.Formula.TheVariants as formula

pub metal_bound : (kg grade recovery price : ℕ) → kg ≤ 10 ^ 9 → grade ≤ 10 ^ 12 → recovery ≤ 1000 → price ≤ 10 ^ 8
    → kg * grade * recovery * price ≤ 10 ^ 32
metal_bound kg grade recovery price k g r p =
    mul-le (kg * grade * recovery) price (10 ^ 24) (10 ^ 8)
    (mul-le (kg * grade) recovery (10 ^ 21) 1000 (mul-le kg grade (10 ^ 9) (10 ^ 12) k g) r) p

pub floor_is : (a : ℤ) (n : ℕ) → 0 < n → IsFloor (floor a n) a n
floor_is (pos a) n some =
    (omega (arith, ints, div-add-mod' a n, mod_below a n some), omega (arith, ints, div-add-mod' a n, mod_below a n some))
floor_is (negsuc a) n some =
    let more : suc (a / n) * n ≡ a / n * n + n = suc-mul (a / n) n in
    (omega (arith, ints, div-add-mod' a n, mod_below a n some), omega (arith, ints, div-add-mod' a n, mod_below a n some))

-- the quotient of natural numbers is the only q with q * n <= a < q * n + n
quotient : (q a n : ℕ) → q * n ≤ a → a < q * n + n → q ≡ a / n
quotient q a n low high = sym (div-eq_of_lt-le n low (rw (add-one, suc-mul q n) high))

pub floor_alone : (q a : ℤ) (n : ℕ) → 0 < n → IsFloor q a n → q ≡ floor a n
floor_alone (pos q) (pos a) n some h = ap pos (quotient q a n (omega (arith, ints, h.0)) (omega (arith, ints, h.1)))
floor_alone (negsuc q) (negsuc a) n some h =
    ap negsuc (quotient q a n (omega (arith, ints, h.1, suc-mul q n)) (omega (arith, ints, h.0, suc-mul q n)))
floor_alone (pos q) (negsuc a) n some h = absurd (omega (arith, ints, h.0))
floor_alone (negsuc q) (pos a) n some h = absurd (omega (arith, ints, h.1, suc-mul q n))

-- a floor of a floor is a floor
pub floor_twice : (z : ℤ) (m n : ℕ) → floor (floor z m) n ≡ floor z (m * n)
floor_twice (pos a) m n = ap pos (div-div-eq-div-mul a m n)
floor_twice (negsuc a) m n = ap negsuc (div-div-eq-div-mul a m n)

-- a recovery is in range if each band is
pub recovery_bound : (o : Option Band) (bands : List Band) (grade : ℕ) → option_map_or (λ b. b.recovery) o 0 ≤ 1000 → All IsBand bands
    → option_map_or (λ b. b.recovery) (last_or o (filter (λ b. nat_le b.start grade) bands)) 0 ≤ 1000
recovery_bound o [] grade first rest = first
recovery_bound o (b ∷ bands) grade first rest =
    by_test (nat_le b.start grade) (recovery_bound (Some b) bands grade (rest 0 b (omega arith)).1 after)
    (recovery_bound o bands grade first after)
  where
    after : All IsBand bands
    after k d below = rest (suc k) d (omega arith)

    by_test : (t : Bool) → option_map_or (λ (c : Band). c.recovery) (last_or (Some b) (filter (λ c. nat_le c.start grade) bands)) 0 ≤ 1000
        → option_map_or (λ (c : Band). c.recovery) (last_or o (filter (λ c. nat_le c.start grade) bands)) 0 ≤ 1000
        → option_map_or (λ (c : Band). c.recovery) (last_or o
        (cond t (b ∷ filter (λ c. nat_le c.start grade) bands) (filter (λ c. nat_le c.start grade) bands))) 0 ≤ 1000
    by_test true with_b without = with_b
    by_test false with_b without = without

-- 10^32 parts of 10^15 make 10^17
floor_bound : (z : ℤ) → unsigned_abs z ≤ 10 ^ 32 → IsWorth (floor z (10 ^ 15))
floor_bound (pos a) h = omega arith
floor_bound (negsuc a) h = omega arith

pub mill_bound : (kg grade recovery price cost : ℕ) → kg ≤ 10 ^ 9 → grade ≤ 10 ^ 12 → recovery ≤ 1000 → price ≤ 10 ^ 8 → cost ≤ 10 ^ 7
    → IsWorth (floor (pos (kg * grade * recovery * price) -ℤ pos (kg * cost * 10 ^ 12)) (10 ^ 15))
mill_bound kg grade recovery price cost k g r p c =
    near _ _ (metal_bound kg grade recovery price k g r p) (mul-le kg cost (10 ^ 9) (10 ^ 7) k c)
  where
    near : (earned spent : ℕ) → earned ≤ 10 ^ 32 → spent ≤ 10 ^ 16 → IsWorth (floor (pos earned -ℤ pos (spent * 10 ^ 12)) (10 ^ 15))
    near earned spent e s = floor_bound (pos earned -ℤ pos (spent * 10 ^ 12)) (omega (arith, ints))

-- so are the costs alone, in thousandths of a cent
spent_bound : (spent : ℕ) → spent ≤ 10 ^ 20 → IsWorth (floor (neg_ℤ (pos spent)) 1000)
spent_bound zero s = omega arith
spent_bound (suc spent) s = omega arith

-- the worth of a block by a formula in range
pub worth_bound : (f : Formula) (b : Block) → IsFormulaInRange f → IsWorth (worth f b)
worth_bound (formula.Mill recovery price cost) b formula_in_range =
    mill_bound b.kg b.grade recovery price cost b.kg_in_range b.grade_in_range formula_in_range.0 formula_in_range.1 formula_in_range.2
worth_bound (formula.Leach bands price cost) b formula_in_range =
    mill_bound b.kg b.grade _ price cost b.kg_in_range b.grade_in_range
    (recovery_bound None bands b.grade (omega arith) formula_in_range.0.in_range) formula_in_range.1 formula_in_range.2
worth_bound (formula.Dump cost) b formula_in_range =
    spent_bound (b.kg * cost) (omega (arith, mul-le b.kg cost (10 ^ 9) (10 ^ 7) b.kg_in_range formula_in_range))

-- a floor is the largest number whose multiple is earned in addition to the costs
paid : (earned spent : ℕ) → ((floor (pos earned -ℤ pos spent) (10 ^ 15) *ℤ pos (10 ^ 15)) +ℤ pos spent) ≤ℤ pos earned
paid earned spent = by_floor (floor (pos earned -ℤ pos spent) (10 ^ 15)) (floor_is (pos earned -ℤ pos spent) (10 ^ 15) (omega arith))
  where
    by_floor : (q : ℤ) → IsFloor q (pos earned -ℤ pos spent) (10 ^ 15) → ((q *ℤ pos (10 ^ 15)) +ℤ pos spent) ≤ℤ pos earned
    by_floor q is = omega (arith, ints, is.0)

most : (earned spent : ℕ) (cents : ℤ) → ((cents *ℤ pos (10 ^ 15)) +ℤ pos spent) ≤ℤ pos earned
    → cents ≤ℤ floor (pos earned -ℤ pos spent) (10 ^ 15)
most earned spent cents within =
    by_floor (floor (pos earned -ℤ pos spent) (10 ^ 15)) (floor_is (pos earned -ℤ pos spent) (10 ^ 15) (omega arith))
  where
    by_floor : (q : ℤ) → IsFloor q (pos earned -ℤ pos spent) (10 ^ 15) → cents ≤ℤ q
    by_floor q is = omega (arith, ints, is.1, within)

-- the cost of a dump, in thousandths of a cent, is the cost of a mill that earns nothing
dumps : (spent : ℕ) → floor (neg_ℤ (pos spent)) 1000 ≡ floor (pos 0 -ℤ pos (spent * 10 ^ 12)) (10 ^ 15)
dumps spent =
    floor_alone (floor (neg_ℤ (pos spent)) 1000) (pos 0 -ℤ pos (spent * 10 ^ 12)) (10 ^ 15) (omega arith)
    (by_floor (floor (neg_ℤ (pos spent)) 1000) (floor_is (neg_ℤ (pos spent)) 1000 (omega arith)))
  where
    by_floor : (q : ℤ) → IsFloor q (neg_ℤ (pos spent)) 1000 → IsFloor q (pos 0 -ℤ pos (spent * 10 ^ 12)) (10 ^ 15)
    by_floor q is = (omega (arith, ints, is.0), omega (arith, ints, is.1))

no_metal : (metal : ℕ) → metal * 0 * 0 ≡ 0
no_metal metal = omega arith

pub worth_earned : (f : Formula) (b : Block) → Earns f b (worth f b)
worth_earned (formula.Mill recovery price cost) b = paid (b.kg * b.grade * recovery * price) (b.kg * cost * 10 ^ 12)
worth_earned (formula.Leach bands price cost) b = paid (b.kg * b.grade * recovery_at bands b.grade * price) (b.kg * cost * 10 ^ 12)
worth_earned (formula.Dump cost) b =
    rw (no_metal (b.kg * b.grade), dumps (b.kg * cost)) (paid 0 (b.kg * cost * 10 ^ 12))

pub worth_largest : (f : Formula) (b : Block) (cents : ℤ) → Earns f b cents → cents ≤ℤ worth f b
worth_largest (formula.Mill recovery price cost) b cents within =
    most (b.kg * b.grade * recovery * price) (b.kg * cost * 10 ^ 12) cents within
worth_largest (formula.Leach bands price cost) b cents within =
    most (b.kg * b.grade * recovery_at bands b.grade * price) (b.kg * cost * 10 ^ 12) cents within
worth_largest (formula.Dump cost) b cents within =
    rw (dumps (b.kg * cost)) (most 0 (b.kg * cost * 10 ^ 12) cents (rw (no_metal (b.kg * b.grade)) at within))
