-- The cells of a record as plans and zone files see them: without the blanks at both ends.
use Rattle.std.specs.Prelude.{ℕ, Bool, List, [], ◌∷◌, ◌==◌, ◌||◌, if◌then◌else◌}
use Rattle.std.specs.Str.{str_eq_ignore_ascii_case}

-- a space or a tab
abbrev pub is_blank : ℕ → Bool
is_blank b = (b == 32) || (b == 9)

-- the bytes from the first one that is no blank
abbrev pub without_leading_blanks : List ℕ → List ℕ
without_leading_blanks [] = []
without_leading_blanks (b ∷ bytes) = if is_blank b then without_leading_blanks bytes else b ∷ bytes

-- an element before the retained ones; dropped if it passes and none is retained
abbrev pub kept_from : {A : Type 0} → (A → Bool) → A → List A → List A
kept_from passes x [] = if passes x then [] else x ∷ []
kept_from passes x (y ∷ kept) = x ∷ y ∷ kept

-- a list up to the last element that does not pass
abbrev pub without_end : {A : Type 0} → (A → Bool) → List A → List A
without_end passes [] = []
without_end passes (x ∷ xs) = kept_from passes x (without_end passes xs)

-- the bytes up to the last one that is no blank
abbrev pub without_trailing_blanks : List ℕ → List ℕ
without_trailing_blanks bytes = without_end is_blank bytes

-- a cell without the blanks at both ends
abbrev pub trimmed : List ℕ → List ℕ
trimmed cell = without_trailing_blanks (without_leading_blanks cell)

-- a cell that is this word, in upper or lower case
abbrev pub is_word : List ℕ → List ℕ → Bool
is_word cell word = str_eq_ignore_ascii_case cell word
