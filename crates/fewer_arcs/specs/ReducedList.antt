-- The properties of a reduced list of predecessors.
use Rattle.std.specs.Prelude.{ℕ, ◌<◌, List, [], Contains, length, slice_index_or, ◌⊎◌}
use Rattle.std.specs.List.Sorted.{IsStrictlyIncreasing}
use Rattle.precedence.specs.Closed.{HasArc}

-- each list is strictly ascending
abbrev pub Rise : List (List ℕ) → Type 0
Rise lists = (b : ℕ) → b < length lists → IsStrictlyIncreasing (slice_index_or lists b [])

-- c is a predecessor of one of these blocks
abbrev pub IsPredecessorOfAny : List (List ℕ) → List ℕ → ℕ → Type 0
IsPredecessorOfAny lists blocks c = (d : ℕ) × Contains blocks d × HasArc lists d c

-- a covering set of a list: each other block of the list is a predecessor of one of the set
pub record IsCoveringSet (lists : List (List ℕ)) (list some : List ℕ) : Type 0 where
  pub among : (c : ℕ) → Contains some c → Contains list c
  pub others : (c : ℕ) → Contains list c → Contains some c ⊎ IsPredecessorOfAny lists some c

-- the reduced list, in the list's order: each dropped block is a predecessor of a block of the list, and no retained block is
pub record IsReduced (lists : List (List ℕ)) (list retained : List ℕ) : Type 0 where
  pub rising : IsStrictlyIncreasing retained
  pub among : (c : ℕ) → Contains retained c → Contains list c
  pub dropped : (c : ℕ) → Contains list c → Contains retained c ⊎ IsPredecessorOfAny lists list c
  pub apart : (c : ℕ) → Contains retained c → IsPredecessorOfAny lists list c → ⊥
