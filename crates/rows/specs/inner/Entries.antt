-- The items of entries whose worths are in one list, the same number for each item.
use Rattle.std.specs.Prelude.{ℕ, ℤ, List, [], ◌∷◌, take, drop, Option, Some, None}
use Rattle.plan_parts.specs.declared.block.Block.{Block}
use Rattle.rows.specs.inner.EntryView.{EntryView}
use Rattle.rows.specs.declared.item.Item.{Item}
use Rattle.rows.specs.declared.item.Item.TheVariants as item

-- the item of an entry; a row gets these worths
abbrev pub item_of : List ℤ → ℕ → ℕ → Option Block → Item
item_of own file number (Some block) = item.Row (record { file = file; place = number; block = block; worths = own })
item_of own file number None = item.End file number

abbrev pub item_with : List ℤ → EntryView → Item
item_with own e = item_of own e.file e.number e.block

-- the items of these entries, each with `width` worths; the first worths belong to the first entry
abbrev pub items_of : ℕ → List ℤ → List EntryView → List Item
items_of width worths [] = []
items_of width worths (e ∷ es) = item_with (take width worths) e ∷ items_of width (drop width worths) es
