-- The worth in cents of an instance's value.
use Rattle.std.specs.Prelude.{◌≡◌, ℤ, pos, ◌*ℤ◌}

-- a value, in millionths of 100 cents, is worth `cents` cents
abbrev pub IsWorthCents : ℤ → ℤ → Type 0
IsWorthCents cents value = value *ℤ pos 100 ≡ cents *ℤ pos 1000000
