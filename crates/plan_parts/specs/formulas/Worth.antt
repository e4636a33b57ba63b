-- The worth of a block in cents, at a mill, a heap leach or a dump.
use Rattle.std.specs.Prelude.{ℕ, ◌*◌, ◌/◌, ◌^◌, List, ℤ, pos, negsuc, ◌-ℤ◌, neg_ℤ}
use Rattle.plan_parts.specs.formulas.Bands.{recovery_at}
use Rattle.plan_parts.specs.declared.formulas.band.Band.{Band}
use Rattle.plan_parts.specs.declared.block.Block.{Block}
use Rattle.plan_parts.specs.declared.formulas.formula.Formula.{Formula}
use Rattle.plan_parts.specs.declared.formulas.formula.Formula.TheVariants as formula

-- a divided by n, rounded down to an integer, also below zero
abbrev pub floor : ℤ → ℕ → ℤ
floor (pos a) n = pos (a / n)
floor (negsuc a) n = negsuc (a / n)

-- the price of the recovered metal less the cost of milling. The price is kilograms times millionths of a gram per tonne times per mille times
-- cents per kilogram, so it counts units of 10^-15 cents. The cost is kilograms times cents per tonne, so it counts thousandths of a cent, and
-- 10^12 brings it to the unit of the price
abbrev pub mill : Block → ℕ → ℕ → ℕ → ℤ
mill b recovery price cost = floor (pos (b.kg * b.grade * recovery * price) -ℤ pos (b.kg * cost * 10 ^ 12)) (10 ^ 15)

-- a mill with the recovery of the band that holds the block's grade
abbrev pub leach : Block → List Band → ℕ → ℕ → ℤ
leach b bands price cost = mill b (recovery_at bands b.grade) price cost

-- the cost of dumping, as a negative number
abbrev pub dump : Block → ℕ → ℤ
dump b cost = floor (neg_ℤ (pos (b.kg * cost))) 1000

-- the worth of a block by a formula
abbrev pub worth : Formula → Block → ℤ
worth (formula.Mill recovery price cost) b = mill b recovery price cost
worth (formula.Leach bands price cost) b = leach b bands price cost
worth (formula.Dump cost) b = dump b cost
