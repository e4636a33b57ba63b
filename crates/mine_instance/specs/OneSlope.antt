-- The instance of a model whose zones have one slope each.
use Rattle.std.specs.Prelude.{List}
use Rattle.plan_parts.specs.Plan.{PlanParts}
use Rattle.plan_parts.specs.declared.block.Block.{Block}
use Rattle.precedence.specs.ConeLaws.{preds_by}
use Rattle.mine_instance.specs.OfModel.{by_identifier, instance_of}
use Rattle.mine_instance.specs.Instance.{Instance}

-- the instance of a plan and of blocks in order of identifier, with predecessors by the test for one slope
abbrev pub instance_by_of : PlanParts → List Block → Instance
instance_by_of plan blocks = record (instance_of plan blocks) { preds = preds_by plan blocks }

-- the same for a list of blocks
abbrev pub instance_by : PlanParts → List Block → Instance
instance_by plan listed = instance_by_of plan (by_identifier listed)
