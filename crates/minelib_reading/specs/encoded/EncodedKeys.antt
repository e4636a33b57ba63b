-- How the key lines of a model file are encoded.
use Rattle.std.specs.Prelude.{◌≡◌, ℕ, List, [], ◌∷◌, ◌++◌}
use Rattle.text_lines.specs.TextLines.{fields_of}

-- `KEY: fields`: only the key before a colon (58), and these fields after it
pub record IsKeyLine (key line : List ℕ) (fields : List (List ℕ)) : Type 0 where
  pub before : List ℕ
  pub following : List ℕ
  pub cut : line ≡ before ++ 58 ∷ following
  pub key_alone : fields_of before ≡ key ∷ []
  pub fields_are : fields_of following ≡ fields
