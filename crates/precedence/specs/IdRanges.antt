-- Ranges of identifiers as lists.
use Rattle.std.specs.Prelude.{ℕ, ◌==◌, Bool, List}
use Rattle.std.specs.List.{flat_map, list_any, range_with_len}
use Rattle.precedence.specs.declared.lists.id_range.IdRange.{IdRange}

-- the identifiers of a range
abbrev pub ids_of_range : IdRange → List ℕ
ids_of_range range = range_with_len range.first range.len

-- the identifiers of the ranges, in order
abbrev pub ids_of : List IdRange → List ℕ
ids_of ranges = flat_map ids_of_range ranges

-- the list contains the identifier
abbrev pub is_in : List ℕ → ℕ → Bool
is_in list id = list_any (λ k. k == id) list
