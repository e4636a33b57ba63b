-- What contracts see of a collector.
use Rattle.std.specs.Prelude.{ℕ, List}
use Rattle.rows.specs.declared.item.Item.{Item}

-- the number of files, which are numbered from 0, and the items in the order of adding
pub record CollectorView : Type 0 where
  pub files : ℕ
  pub items : List Item
