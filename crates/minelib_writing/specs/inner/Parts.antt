-- The parts that lines are written in, some of these parts, and the lines that they form.
use Rattle.std.specs.Prelude.{◌≡◌, ℕ, List, [], ◌∷◌, ◌++◌, drop, map, take}
use Rattle.std.specs.List.{concat}
use Rattle.std.proofs.Common.{refl, ap}
use Rattle.minelib_lines.specs.Lines.{lines_from, text_of}
use Rattle.minelib_writing.specs.Written.{prec_line}

-- a part for each line
abbrev pub line_parts : List (List ℕ) → List (List ℕ)
line_parts lines = map (λ line. line ++ 10 ∷ []) lines

-- the parts together are the lines
pub lines_whole : (lines : List (List ℕ)) → concat (line_parts lines) ≡ text_of lines
lines_whole [] = refl
lines_whole (line ∷ lines) = ap (λ rest. (line ++ 10 ∷ []) ++ rest) (lines_whole lines)

-- the text of n parts from an index on
abbrev pub text_from : List (List ℕ) → ℕ → ℕ → List ℕ
text_from parts index n = concat (take n (drop index parts))

-- the line of a block in the precedence file of these lists, with its LF
abbrev pub line_of_preds : List (List ℕ) → ℕ → List ℕ
line_of_preds lists id = text_of (take 1 (drop id (lines_from prec_line 0 lists)))
