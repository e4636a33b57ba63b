-- Facts about the parts at some positions.
use Rattle.std.specs.Prelude.{ℕ, ◌<◌, ◌≤◌}

-- about each position from one on, before another
abbrev pub HoldsFrom : (ℕ → Type 0) → ℕ → ℕ → Type 0
HoldsFrom Holds start end = (place : ℕ) → start ≤ place → place < end → Holds place
