-- The lines of a text that are read, and the fields of a line.
use Rattle.std.specs.Prelude.{ℕ, Bool, true, List, [], ◌∷◌, ◌+◌, ◌==◌, length, take, drop, if◌then◌else◌}
use Rattle.std.specs.List.{onto_first}
use Rattle.std.specs.Str.{bytes_eq}
use Rattle.std.specs.Str.Lines.{strip_carriage_return}
use Rattle.records.specs.Cells.{is_blank, without_leading_blanks}

-- the lines of a text, each ended by LF or by the text's end, without the LF; after a last LF no line begins
abbrev pub lines_of : List ℕ → List (List ℕ)
lines_of [] = []
lines_of (b ∷ bytes) = if b == 10 then [] ∷ lines_of bytes else onto_first b (lines_of bytes)

-- a text without one byte order mark at its start
abbrev pub without_mark : List ℕ → List ℕ
without_mark text = if bytes_eq (take 3 text) (239 ∷ 187 ∷ 191 ∷ []) then drop 3 text else text

-- nothing, or `%` first
abbrev pub is_remark : List ℕ → Bool
is_remark [] = true
is_remark (b ∷ bytes) = b == 37

-- only blanks, or blanks followed by `%`
abbrev pub is_skipped : List ℕ → Bool
is_skipped line = is_remark (without_leading_blanks line)

-- a field ends before these bytes
abbrev pub is_ended : List ℕ → Bool
is_ended [] = true
is_ended (b ∷ bytes) = is_blank b

-- the fields of a line: the bytes between blanks
abbrev pub fields_of : List ℕ → List (List ℕ)
fields_of [] = []
fields_of (b ∷ bytes) =
    if is_blank b then fields_of bytes
    else (if is_ended bytes then (b ∷ []) ∷ fields_of bytes else onto_first b (fields_of bytes))

-- a line by its number
pub record Line : Type 0 where
  pub number : ℕ
  pub text : List ℕ

-- the lines that are read, if the first of all lines has this number; skipped lines count
abbrev pub numbered_lines : ℕ → List (List ℕ) → List Line
numbered_lines n [] = []
numbered_lines n (line ∷ lines) =
    if is_skipped (strip_carriage_return line) then numbered_lines (n + 1) lines
    else record { number = n; text = strip_carriage_return line } ∷ numbered_lines (n + 1) lines

-- the lines of a text that are read
abbrev pub lines_in : List ℕ → List Line
lines_in text = numbered_lines 1 (lines_of (without_mark text))

-- the number of the line after the last
abbrev pub end_of : List ℕ → ℕ
end_of text = length (lines_of (without_mark text)) + 1
