-- What contracts see of an item without its worths.
use Rattle.std.specs.Prelude.{ℕ, Option}
use Rattle.plan_parts.specs.declared.block.Block.{Block}

-- a row of this file at this place, with its block; or, without a block, the end mark of this file with this count
pub record EntryView : Type 0 where
  pub file : ℕ
  pub number : ℕ
  pub block : Option Block
