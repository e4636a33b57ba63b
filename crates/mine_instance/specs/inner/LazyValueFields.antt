-- How contracts see the values of blocks: by the worths of rows and their positions.
use Rattle.std.specs.Prelude.{ℕ, ℤ, List, [], map, slice_index_or}
use Rattle.mine_instance.specs.OfModel.{in_hundreds}

-- the values, from the worths at a position
abbrev pub values_at : List (List ℤ) → ℕ → List ℤ
values_at worths position = map in_hundreds (slice_index_or worths position [])
