-- Equivalent lists of predecessors, with a list for each block by identifier.
use Rattle.std.specs.Prelude.{◌≡◌, ℕ, Bool, true, List}
use Rattle.precedence.specs.Closed.{HasArc, HasPath}

-- a relation of blocks
abbrev pub Relation : Type 0
Relation = ℕ → ℕ → Bool

abbrev pub IsTransitive : Relation → Type 0
IsTransitive R = (a b c : ℕ) → R a b ≡ true → R b c ≡ true → R a c ≡ true

-- the relation holds along each arc
abbrev pub HoldsAlong : Relation → List (List ℕ) → Type 0
HoldsAlong R lists = (b c : ℕ) → HasArc lists b c → R b c ≡ true

-- every transitive relation that holds along all arcs of `reduced` holds along all arcs of `lists`
abbrev pub AreImplied : List (List ℕ) → List (List ℕ) → Type 0
AreImplied lists reduced = (R : Relation) → IsTransitive R → HoldsAlong R reduced → HoldsAlong R lists

-- `reduced` have a path for each arc of `lists`
abbrev pub HavePaths : List (List ℕ) → List (List ℕ) → Type 0
HavePaths lists reduced = (b c : ℕ) → HasArc lists b c → (n : ℕ) × HasPath reduced n b c

-- each arc of `some` is an arc of `lists`
abbrev pub AreAmong : List (List ℕ) → List (List ℕ) → Type 0
AreAmong some lists = (b c : ℕ) → HasArc some b c → HasArc lists b c
