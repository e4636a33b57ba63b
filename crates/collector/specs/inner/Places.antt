-- The positions of the rows of each file, by place, while lists of items are processed.
use Rattle.std.specs.Prelude.{◌≡◌, ℕ, ◌<◌, ◌≤◌, ◌==◌, if◌then◌else◌, List, [], length, slice_get, slice_index_or, Some}
use Rattle.std.specs.Option.{option_and_then, unwrap_or}
use Rattle.rows.specs.Packed.{row_on}
use Rattle.collector.specs.inner.WithAt.{with_at}
use Rattle.rows.specs.declared.item.Item.{Item}
use Rattle.rows.specs.declared.item.Item.TheVariants.{Row, End}
use Rattle.rows.specs.declared.item.Valued.{Valued}
use Rattle.rows.specs.declared.item_key.ItemKey.{ItemKey}
use Rattle.rows.specs.declared.item_key.ItemKey.TheVariants as item_key
use Rattle.rows.specs.ItemRefView.{ItemRefView}

-- the items of one of several lists
abbrev pub items_on : List (List Item) → ℕ → List Item
items_on lists list = slice_index_or lists list []

-- the positions of a file's rows
abbrev pub item_refs_in : List (List ItemRefView) → ℕ → List ItemRefView
item_refs_in places file = unwrap_or (slice_get places file) []

-- the file has this position at the place, and nothing else changed
abbrev pub IsStored : ℕ → ℕ → ItemRefView → List (List ItemRefView) → List (List ItemRefView) → Type 0
IsStored file place item_ref old new =
    (other : ℕ) → item_refs_in new other ≡ (if file == other then with_at (item_refs_in old other) place item_ref else item_refs_in old other)

-- the position stored for the row's file and place holds a row of this file and place
abbrev pub IsPlaced : List (List Item) → List (List ItemRefView) → Item → Type 0
IsPlaced lists places (Row v) =
    (w : Valued) × (option_and_then (row_on lists) (slice_get (item_refs_in places v.file) v.place) ≡ Some w)
    × (w.file ≡ v.file) × (w.place ≡ v.place)
IsPlaced lists places (End file count) = Unit {0}

-- the row with this mark has this position at its place, and nothing else changed
abbrev pub IsStoredAs : ItemKey → ItemRefView → List (List ItemRefView) → List (List ItemRefView) → Type 0
IsStoredAs (item_key.Row file place) item_ref old new = IsStored file place item_ref old new
IsStoredAs (item_key.End file count) item_ref old new = (other : ℕ) → item_refs_in new other ≡ item_refs_in old other

-- the number of a row's file is below this
abbrev pub IsOfFile : ℕ → ItemKey → Type 0
IsOfFile files (item_key.Row file place) = file < files
IsOfFile files (item_key.End file count) = Unit {0}

-- no file has more places than this
abbrev pub AreFew : (ℕ → ℕ) → List (List ItemRefView) → Type 0
AreFew counts places = (file : ℕ) → length (item_refs_in places file) ≤ counts file
