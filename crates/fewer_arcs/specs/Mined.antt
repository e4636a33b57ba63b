-- Pits, periods and mined shares that respect predecessors.
use Rattle.std.specs.Prelude.{◌≡◌, ℕ, ◌≤◌, Bool, true, List}
use Rattle.precedence.specs.Closed.{HasArc}

-- the pit contains the predecessors of each of its blocks
abbrev pub IsPit : List (List ℕ) → (ℕ → Bool) → Type 0
IsPit lists pit = (b c : ℕ) → HasArc lists b c → pit b ≡ true → pit c ≡ true

-- by the end of a period, no larger share of a block is mined than of each predecessor; shares are integers in some unit
abbrev pub IsMinedInOrder : List (List ℕ) → (ℕ → ℕ → ℕ) → Type 0
IsMinedInOrder lists mined = (b c : ℕ) → HasArc lists b c → (period : ℕ) → mined b period ≤ mined c period

-- no block is mined in an earlier period than a predecessor
abbrev pub IsSchedule : List (List ℕ) → (ℕ → ℕ) → Type 0
IsSchedule lists period_of = (b c : ℕ) → HasArc lists b c → period_of c ≤ period_of b
