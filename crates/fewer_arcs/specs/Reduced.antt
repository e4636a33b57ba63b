-- Reduced lists of predecessors.
use Rattle.std.specs.Prelude.{ℕ, not, List, filter, map}
use Rattle.precedence.specs.PredecessorOfAny.{is_predecessor_of_any}

-- the reduced list: a block is dropped if it is a predecessor of any block of the list
abbrev pub reduced_list : List (List ℕ) → List ℕ → List ℕ
reduced_list lists list = filter (λ c. not (is_predecessor_of_any lists list c)) list

-- the reduced list of each list
abbrev pub reduced : List (List ℕ) → List (List ℕ)
reduced lists = map (reduced_list lists) lists
