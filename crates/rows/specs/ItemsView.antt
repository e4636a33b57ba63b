-- What contracts see of a valuer's list of items, and when the list is full.
use Rattle.std.specs.Prelude.{◌≡◌, ℕ, ◌≤◌, List, map}
use Rattle.rows.specs.declared.item.Item.{Item}

-- unpacked: the items, and the capacity left for more
pub record ItemsView : Type 0 where
  pub items : List Item
  pub room : ℕ

-- packed: the items, the capacity left for items and for worths, and the number of worths of each row
pub record PackedView : Type 0 where
  pub items : List Item
  pub room : ℕ
  pub worths_room : ℕ
  pub width : ℕ

-- the items of each of these packed lists
abbrev pub items_in : List PackedView → List (List Item)
items_in lists = map (λ list. list.items) lists

-- the list has no capacity for one more item
abbrev pub IsFull : ItemsView → Type 0
IsFull list = list.room ≡ 0

-- the packed list has no capacity for one more item with this number of worths
abbrev pub IsFullFor : ℕ → PackedView → Type 0
IsFullFor worths list = worths ≤ list.worths_room → list.room ≡ 0
