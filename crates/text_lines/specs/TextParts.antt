-- The bytes of lines, and of the fields of a line.
use Rattle.std.specs.Prelude.{◌≡◌, ◌≢◌, ℕ, ◌≤◌, false, true, List, length, All}
use Rattle.records.specs.Cells.{is_blank}

-- bytes without LF
abbrev pub IsLineText : List ℕ → Type 0
IsLineText line = All (λ b. b ≢ 10) line

-- spaces and tabs
abbrev pub AreBlanks : List ℕ → Type 0
AreBlanks bytes = All (λ b. is_blank b ≡ true) bytes

-- one byte or more, and no blank
abbrev pub IsFieldText : List ℕ → Type 0
IsFieldText field = (1 ≤ length field) × All (λ b. is_blank b ≡ false) field
