-- The items of a file in a list of items.
use Rattle.std.specs.Prelude.{ℕ, Bool, false, if◌then◌else◌, ◌&&◌, ◌||◌, ◌==◌, nat_le, List, [], ◌∷◌, Option, Some, None}
use Rattle.rows.specs.declared.item.Item.{Item}
use Rattle.rows.specs.declared.item.Item.TheVariants.{Row, End}
use Rattle.rows.specs.declared.item.Valued.{Valued}

-- the item is the row of this file and place
abbrev pub is_row_at : ℕ → ℕ → Item → Bool
is_row_at file place (Row v) = (v.file == file) && (v.place == place)
is_row_at file place (End f n) = false

-- the item is the end mark of this file
abbrev pub is_end_of : ℕ → Item → Bool
is_end_of file (Row v) = false
is_end_of file (End f n) = f == file

-- the first row of this file and place
abbrev pub row_at : ℕ → ℕ → List Item → Option Valued
row_at file place [] = None
row_at file place (Row v ∷ items) = if (v.file == file) && (v.place == place) then Some v else row_at file place items
row_at file place (End f n ∷ items) = row_at file place items

-- the count of the first end mark of this file
abbrev pub end_at : ℕ → List Item → Option ℕ
end_at file [] = None
end_at file (Row v ∷ items) = end_at file items
end_at file (End f n ∷ items) = if f == file then Some n else end_at file items

-- some row of this file is at this place or a later one
abbrev pub has_past : ℕ → ℕ → List Item → Bool
has_past file place [] = false
has_past file place (Row v ∷ items) = ((v.file == file) && nat_le place v.place) || has_past file place items
has_past file place (End f n ∷ items) = has_past file place items
