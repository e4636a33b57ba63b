-- A table of marks, one for each number.
use Rattle.std.specs.Prelude.{◌≡◌, ℕ, ◌&&◌, Bool, true, false, List, [], ◌∷◌, nat_lt, slice_index_or, IsTrue}
use Rattle.minelib_reading.specs.LineForms.{has_id}

-- no place is marked
abbrev pub AreClear : List Bool → Type 0
AreClear marks = (place : ℕ) → slice_index_or marks place false ≡ false

-- each marked number is in the list
abbrev pub AreMarked : List ℕ → List Bool → Type 0
AreMarked ids marks = (place : ℕ) → slice_index_or marks place false ≡ true → IsTrue (has_id ids place)

-- the numbers rise, and the first is above `own`
abbrev pub rise_above : ℕ → List ℕ → Bool
rise_above own [] = true
rise_above own (id ∷ ids) = nat_lt own id && rise_above id ids
