-- The path of an instance's file.
use Rattle.std.specs.Prelude.{ℕ, List, ◌∷◌, ◌++◌}

-- BASE, a point and the file's extension
abbrev pub path_to : List ℕ → List ℕ → List ℕ
path_to base ending = base ++ (46 ∷ ending)
