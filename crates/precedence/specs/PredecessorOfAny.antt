-- Predecessors of any of the given blocks.
use Rattle.std.specs.Prelude.{ℕ, Bool, List, [], slice_index_or}
use Rattle.std.specs.List.{list_any}
use Rattle.precedence.specs.IdRanges.{is_in}

-- c is a predecessor of one of these blocks
abbrev pub is_predecessor_of_any : List (List ℕ) → List ℕ → ℕ → Bool
is_predecessor_of_any lists blocks c = list_any (λ d. is_in (slice_index_or lists d []) c) blocks
