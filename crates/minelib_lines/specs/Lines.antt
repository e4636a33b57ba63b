-- Texts as lines, and lines as fields.
use Rattle.std.specs.Prelude.{ℕ, ◌+◌, List, [], ◌∷◌, ◌++◌}
use Rattle.std.specs.List.{join_with_byte}

-- these lines in order, each ended by LF
abbrev pub text_of : List (List ℕ) → List ℕ
text_of [] = []
text_of (line ∷ lines) = (line ++ 10 ∷ []) ++ text_of lines

-- fields, separated by one space
abbrev pub line_of : List (List ℕ) → List ℕ
line_of fields = join_with_byte 32 fields

-- a line for each item; `fields` gets the item and its number, counted from n
abbrev pub lines_from : {A : Type 0} → (ℕ → A → List (List ℕ)) → ℕ → List A → List (List ℕ)
lines_from fields n [] = []
lines_from fields n (x ∷ xs) = line_of (fields n x) ∷ lines_from fields (n + 1) xs
