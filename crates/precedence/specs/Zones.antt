-- Blocks whose zones a plan has.
use Rattle.std.specs.Prelude.{◌<◌, List, All, length}
use Rattle.plan_parts.specs.Plan.{PlanParts}
use Rattle.plan_parts.specs.declared.block.Block.{Block}

-- the plan has the zone of each block
abbrev pub HasZones : PlanParts → List Block → Type 0
HasZones plan blocks = All (λ b. b.zone < length plan.cones) blocks
