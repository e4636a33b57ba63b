-- The parts of an instance. Blocks are ordered by identifier.
use Rattle.std.specs.Prelude.{ℕ, ℤ, List}
use Rattle.plan_parts.specs.declared.block.Block.{Block}
use Rattle.plan_parts.specs.declared.limit.Limit.{Limit}
use Rattle.mine_instance.specs.declared.coefs.coef.Coef.{Coef}

pub record Instance : Type 0 where
  pub name : List ℕ
  -- the discount rate, in millionths
  pub rate : ℤ
  pub periods : ℕ
  pub destinations : ℕ
  pub resources : ℕ
  pub blocks : List Block
  -- for each block, the blocks that must be mined before it
  pub preds : List (List ℕ)
  -- for each block, its value at each destination, in units of 100 cents
  pub values : List (List ℤ)
  pub coefs : List Coef
  pub limits : List Limit
