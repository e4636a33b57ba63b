-- The line of one block's values as a part of all lines, and the facts about these values.
use Rattle.std.proofs.Common.{◌≡◌, ℕ, ◌+◌, ◌<◌, List, [], ◌∷◌, ◌++◌, ℤ, length, get_or, ◌∙◌}
use Rattle.std.specs.Prelude.{HoldsAt}
use Rattle.std.proofs.lemmas.List.{get_or_default}
use Rattle.minelib_lines.specs.Lines.{line_of, lines_from}
use Rattle.minelib_writing.proofs.KeptFacts.{holds_one, kept_at}
use Rattle.minelib_writing.proofs.LineFacts.{line_parts_count, line_part}
use Rattle.minelib_writing.specs.inner.KeptParts.{HoldsFrom}
use Rattle.minelib_writing.specs.inner.Parts.{line_parts, text_from}

module _ (fields : ℕ → List ℤ → List (List ℕ)) (values : List (List ℤ)) (index : ℕ) (own : List ℤ)
    (part : index < length (line_parts (lines_from fields 0 values))) (is : own ≡ get_or values index []) where
  pub block_within : index < length values
  block_within = rw line_parts_count at part

  stands : own ≡ get_or values index own
  stands = is ∙ get_or_default values index [] own block_within

  pub block_line : text_from (line_parts (lines_from fields 0 values)) index 1 ≡ line_of (fields index own) ++ 10 ∷ []
  block_line = line_part fields index values own block_within stands

  pub block_kept : (P : List ℤ → Type 0) → P own → HoldsFrom (HoldsAt P values) index (index + 1)
  block_kept P here = holds_one (HoldsAt P values) index (kept_at P values index own block_within stands here)
