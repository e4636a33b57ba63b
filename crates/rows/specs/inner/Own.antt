-- The worths of packed items, by position.
use Rattle.std.specs.Prelude.{◌≡◌, ℕ, ◌+◌, ◌*◌, ◌≤◌, ℤ, List, [], length, take, drop, slice_get, Some}
use Rattle.std.specs.Option.{option_map, unwrap_or}
use Rattle.rows.specs.Packed.{row_of}
use Rattle.rows.specs.declared.item.Item.{Item}
use Rattle.rows.specs.declared.item.Valued.{Valued}
use Rattle.rows.specs.declared.packed.worths.PackedWorths.{PackedWorths}
use Rattle.rows.specs.ItemRefView.{ItemRefView}

-- the worths at a position
abbrev pub own_at : PackedWorths → ℕ → List ℤ
own_at list position = take list.width (drop (position * list.width) list.worths.items)

-- all of them exist
abbrev pub AreThere : PackedWorths → ℕ → Type 0
AreThere list position = position * list.width + list.width ≤ length list.worths.items

-- these are the worths of the rows among the items
abbrev pub HasWorths : List Item → PackedWorths → Type 0
HasWorths items list = (position : ℕ) (row : Valued) → row_of items position ≡ Some row
    → (row.worths ≡ own_at list position) × AreThere list position

-- the worths at a position of these lists
abbrev pub own_on : List PackedWorths → ItemRefView → List ℤ
own_on lists item_ref = unwrap_or (option_map (λ list. own_at list item_ref.position) (slice_get lists item_ref.list)) []

-- there are worths at this position
abbrev pub HasOwn : List PackedWorths → ItemRefView → Type 0
HasOwn lists item_ref = (list : PackedWorths) × (slice_get lists item_ref.list ≡ Some list) × AreThere list item_ref.position
