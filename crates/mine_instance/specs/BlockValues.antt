-- The values of one block, in units of 100 cents or in cents.
use Rattle.std.specs.Prelude.{ℤ, List, map}
use Rattle.mine_instance.specs.OfModel.{in_hundreds}
use Rattle.mine_instance.specs.declared.values.block.BlockValues.{BlockValues}
use Rattle.mine_instance.specs.declared.values.block.BlockValues.TheVariants.{Hundreds, Cents}

-- the values in units of 100 cents
abbrev pub values_in : BlockValues → List ℤ
values_in (Hundreds values) = values.now
values_in (Cents cents) = map in_hundreds cents.now
