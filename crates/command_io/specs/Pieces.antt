-- How the input of the pipe form is cut, by lines.
use Rattle.std.specs.Prelude.{ℕ, Bool, ◌≡◌, ◌-◌, ◌<◌, ◌==◌, ◌||◌, if◌then◌else◌, List, [], ◌∷◌, ◌++◌, length, drop, map, filter, slice_index, codes}
use Rattle.std.specs.List.{concat, onto_first, slice_index_or, slice_split}
use Rattle.std.specs.Str.{bytes_eq}

-- the lines of an input, each with its LF; only the last may have none
abbrev pub ended_lines : List ℕ → List (List ℕ)
ended_lines [] = []
ended_lines (b ∷ bs) = if b == 10 then (b ∷ []) ∷ ended_lines bs else onto_first b (ended_lines bs)

-- a line cuts if it is `--`, ended by LF, by CR LF, or by the end of the input; quotes around it do not count
abbrev pub is_cut : List ℕ → Bool
is_cut line = bytes_eq line (codes "--" ++ 10 ∷ []) || bytes_eq line (codes "--" ++ 13 ∷ 10 ∷ []) || bytes_eq line (codes "--")

-- the lines at which an input is cut
abbrev pub cuts_of : List ℕ → List (List ℕ)
cuts_of input = filter is_cut (ended_lines input)

-- the bytes before, between and after the cuts: the number of cuts + 1 parts
abbrev pub pieces_of : List ℕ → List (List ℕ)
pieces_of input = map concat (slice_split is_cut (ended_lines input))

-- the first part, which always exists
abbrev pub plan_piece : List ℕ → List ℕ
plan_piece input = slice_index_or (pieces_of input) 0 []

-- the other parts, one for each zone file
abbrev pub zone_pieces : List ℕ → List (List ℕ)
zone_pieces input = drop 1 (pieces_of input)

-- the content of `Pieces`
pub record PiecesView : Type 0 where
  pub plan : List ℕ
  pub zones : List (List ℕ)

-- parts and cuts in turn, starting with the first part
abbrev pub woven : List (List ℕ) → List (List ℕ) → List ℕ
woven [] cuts = concat cuts
woven (piece ∷ pieces) [] = piece ++ concat pieces
woven (piece ∷ pieces) (cut ∷ cuts) = piece ++ (cut ++ woven pieces cuts)

-- a text is empty, or ends in LF
abbrev pub IsEnded : List ℕ → Type 0
IsEnded text = 0 < length text → slice_index text (length text - 1) ≡ 10
