-- The rounding of worths, and their range.
use Rattle.std.specs.Prelude.{ℕ, ◌*◌, ◌^◌, ◌≤◌, ℤ, pos, ◌+ℤ◌, ◌*ℤ◌, ◌≤ℤ◌, ◌<ℤ◌, unsigned_abs}
use Rattle.plan_parts.specs.declared.formulas.formula.Formula.TheVariants as formula

-- q is the integer to which a divided by n is rounded down
abbrev pub IsFloor : ℤ → ℤ → ℕ → Type 0
IsFloor q a n = ((q *ℤ pos n) ≤ℤ a) × (a <ℤ ((q *ℤ pos n) +ℤ pos n))

-- within 10^17 cents of zero
abbrev pub IsWorth : ℤ → Type 0
IsWorth cents = unsigned_abs cents ≤ 10 ^ 17
