-- Lists of valuers that have no capacity left.
use Rattle.std.specs.Prelude.{ℕ, List, [], ◌∷◌, ◌⊎◌}
use Rattle.rows.specs.ItemsView.{IsFullFor, PackedView}

-- one of the lists has no capacity left for a row with this number of worths
abbrev pub IsOneFull : ℕ → List PackedView → Type 0
IsOneFull worths [] = ⊥
IsOneFull worths (list ∷ lists) = IsFullFor worths list ⊎ IsOneFull worths lists
