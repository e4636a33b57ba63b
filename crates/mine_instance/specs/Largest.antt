-- The largest of some numbers.
use Rattle.std.specs.Prelude.{ℕ, Bool, List, ℤ, pos, int_le, slice_index_or}
use Rattle.std.specs.List.{list_all, position_or_len}

-- none of the numbers is larger
abbrev pub is_largest : List ℤ → ℤ → Bool
is_largest numbers n = list_all (λ m. int_le m n) numbers

-- the position of the first largest number
abbrev pub first_largest : List ℤ → ℕ
first_largest numbers = position_or_len (is_largest numbers) numbers

-- the largest of the numbers
abbrev pub largest : List ℤ → ℤ
largest numbers = slice_index_or numbers (first_largest numbers) (pos 0)
