-- Other descriptions of NAMEs, bands, worths and limits, which theorems compare with the definitions.
use Rattle.std.specs.Prelude.{ℕ, ◌+◌, ◌*◌, ◌≤◌, List, All, ℤ, pos, ◌+ℤ◌, ◌*ℤ◌, ◌≤ℤ◌, codes}
use Rattle.std.specs.List.{Contains}
use Rattle.plan_parts.specs.formulas.Bands.{recovery_at}
use Rattle.plan_parts.specs.declared.formulas.band.Band.{Band}
use Rattle.plan_parts.specs.declared.block.Block.{Block}
use Rattle.plan_parts.specs.declared.formulas.formula.Formula.{Formula}
use Rattle.plan_parts.specs.declared.formulas.formula.Formula.TheVariants as formula
use Rattle.plan_parts.specs.declared.limit.Bound.{Bound}
use Rattle.plan_parts.specs.declared.limit.Bound.TheVariants.{AtMost, AtLeast, Between}
use Rattle.plan_parts.specs.declared.limit.Limit.{Limit}
use Rattle.plan_parts.specs.declared.ranges.TheConstants.{MAX_PERIODS}

-- the bytes of NAMEs
abbrev pub name_bytes : List ℕ
name_bytes = codes "ABCDEFGHIJKLMNOPQRSTUVWXYZabcdefghijklmnopqrstuvwxyz0123456789_-."

-- the band of a grade: the last band that begins at or below the grade
pub record IsBandOf (bands : List Band) (grade : ℕ) (b : Band) : Type 0 where
  pub one : Contains bands b
  pub begun : b.start ≤ grade
  pub highest : All (λ c. c.start ≤ grade → c.start ≤ b.start) bands

-- the recovery of a formula at a grade, per mille, which is 0 at a dump; its price of the metal, in cents per kilogram; and its cost, in
-- cents per tonne
abbrev pub recovered : Formula → ℕ → ℕ
recovered (formula.Mill recovery price cost) grade = recovery
recovered (formula.Leach bands price cost) grade = recovery_at bands grade
recovered (formula.Dump cost) grade = 0

abbrev pub price_of : Formula → ℕ
price_of (formula.Mill recovery price cost) = price
price_of (formula.Leach bands price cost) = price
price_of (formula.Dump cost) = 0

abbrev pub cost_of : Formula → ℕ
cost_of (formula.Mill recovery price cost) = cost
cost_of (formula.Leach bands price cost) = cost
cost_of (formula.Dump cost) = cost

-- the kilograms in a tonne, which is also the number of grams in a kilogram; the fractions of a gram that grades count; the
-- fractions that recoveries count
abbrev pub kilo : ℕ
kilo = 1000

abbrev pub million : ℕ
million = 1000000

abbrev pub mille : ℕ
mille = 1000

-- the recovered metal of a block sells for the cost of the block and at least this number of cents more
abbrev pub Earns : Formula → Block → ℤ → Type 0
Earns f b cents =
    ((cents *ℤ pos (kilo * million * kilo * mille)) +ℤ pos (b.kg * cost_of f * (million * kilo * mille)))
    ≤ℤ pos (b.kg * b.grade * recovered f b.grade * price_of f)

-- this number of tonnes is within a bound
abbrev pub KeepsBound : Bound → ℤ → Type 0
KeepsBound (AtMost v) tonnes = tonnes ≤ℤ v
KeepsBound (AtLeast v) tonnes = v ≤ℤ tonnes
KeepsBound (Between v w) tonnes = (v ≤ℤ tonnes) × (tonnes ≤ℤ w)

-- the position of a limit in a table that lists all periods of the first resource, then all of the second, and so on
abbrev pub place_of : Limit → ℕ
place_of l = l.resource * MAX_PERIODS + l.period
