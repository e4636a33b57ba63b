-- Identifiers in a line, each after a space, and the start of each in the text of 0, 1, 2, ..
use Rattle.std.specs.Prelude.{◌≡◌, ℕ, ◌<◌, List, ◌∷◌, decimal, length, slice_index}
use Rattle.std.specs.List.{flat_map, range_with_len}

abbrev pub spaced : List ℕ → List ℕ
spaced ids = flat_map (λ id. 32 ∷ decimal id) ids

-- the start of an identifier's text, after the texts of all smaller ones
abbrev pub start_in : ℕ → ℕ
start_in id = length (spaced (range_with_len 0 id))

abbrev pub AreStarts : List ℕ → Type 0
AreStarts starts = (id : ℕ) → id < length starts → slice_index starts id ≡ start_in id
