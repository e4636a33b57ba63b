-- The lists of predecessors that one list with ends represents.
use Rattle.std.specs.Prelude.{◌≡◌, ℕ, zero, suc, ◌-◌, ◌≤◌, List, [], ◌∷◌, length, take, drop}
use Rattle.precedence.specs.declared.lists.predecessors.Preds.TheInside.{Inside}

-- the parts of a list from the index `from` on, up to each of the ends
abbrev pub pieces : List ℕ → ℕ → List ℕ → List (List ℕ)
pieces flat from [] = []
pieces flat from (end ∷ ends) = take (end - from) (drop from flat) ∷ pieces flat end ends

-- the start of the part at an index
abbrev pub start_at : ℕ → List ℕ → ℕ → ℕ
start_at from ends zero = from
start_at from [] (suc k) = from
start_at from (end ∷ ends) (suc k) = start_at end ends k

-- the ends never decrease, and the last is the length
abbrev pub AreEnds : ℕ → List ℕ → ℕ → Type 0
AreEnds from [] len = from ≡ len
AreEnds from (end ∷ ends) len = (from ≤ end) × AreEnds end ends len

abbrev pub lists_of : Inside → List (List ℕ)
lists_of p = pieces p.flat.items 0 p.ends.items

abbrev pub KeepsPreds : Inside → Type 0
KeepsPreds p = AreEnds 0 p.ends.items (length p.flat.items)
