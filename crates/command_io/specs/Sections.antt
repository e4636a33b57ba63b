-- What is printed for an instance: its files, each after its section line.
use Rattle.std.specs.Prelude.{ℕ, List, ◌∷◌, ◌++◌, codes, flat_map}
use Rattle.mine_instance.specs.Instance.{Instance}
use Rattle.minelib_lines.specs.TextNames.{all_texts, ending_of}
use Rattle.minelib_writing.specs.Texts.{text_named}

-- a text after its section line
abbrev pub section : List ℕ → List ℕ → List ℕ
section name text = codes "== " ++ (name ++ (10 ∷ text))

-- the sections of all files
abbrev pub printed : Instance → List ℕ
printed i = flat_map (λ name. section (ending_of name) (text_named name i)) all_texts
