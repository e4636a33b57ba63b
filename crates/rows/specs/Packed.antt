-- Rows among packed items: the identity of an item, and the row at a position of several lists of items.
use Rattle.std.specs.Prelude.{◌≡◌, ℕ, ℤ, true, is_some, slice_get, length, All, List, Option, Some, None}
use Rattle.std.specs.Option.{option_and_then}
use Rattle.plan_parts.specs.formulas.WorthRange.{IsWorth}
use Rattle.rows.specs.declared.item.Item.{Item}
use Rattle.rows.specs.declared.item.Item.TheVariants.{Row, End}
use Rattle.rows.specs.declared.item.Valued.{Valued}
use Rattle.rows.specs.declared.item_key.ItemKey.{ItemKey}
use Rattle.rows.specs.declared.item_key.ItemKey.TheVariants as item_key
use Rattle.rows.specs.ItemRefView.{ItemRefView}

-- this number of worths, each in the range of a formula's worths
abbrev pub AreWorths : ℕ → List ℤ → Type 0
AreWorths width worths = (length worths ≡ width) × All IsWorth worths

-- the item without a row's block and worths
abbrev pub key_of : Item → ItemKey
key_of (Row v) = item_key.Row v.file v.place
key_of (End file rows) = item_key.End file rows

-- the row, if the item is one
abbrev pub row_in : Item → Option Valued
row_in (Row v) = Some v
row_in (End file rows) = None

-- the row at a position of a list of items, if the item there is a row
abbrev pub row_of : List Item → ℕ → Option Valued
row_of items position = option_and_then row_in (slice_get items position)

-- the row at a position of these lists, if the item there is a row
abbrev pub row_on : List (List Item) → ItemRefView → Option Valued
row_on lists item_ref = option_and_then (λ items. row_of items item_ref.position) (slice_get lists item_ref.list)

-- the item there is a row
abbrev pub HasRow : List (List Item) → ItemRefView → Type 0
HasRow lists item_ref = is_some (row_on lists item_ref) ≡ true
