-- The instance of a model: its blocks by identifier, their predecessors, their values, and the tonnes of each that resources handle
-- (the parts of a MineLib instance: Espinoza, Goycoolea, Moreno and Newman 2013).
use Rattle.std.specs.Prelude.{ℕ, ◌*◌, ◌==◌, ◌||◌, not, List, ℤ, pos, ◌*ℤ◌, Option, Some, None, length, map, find, if◌then◌else◌}
use Rattle.std.specs.List.{list_any, filter_map, flat_map, range_with_len, enumerate_from}
use Rattle.plan_parts.specs.PlanFormulas.{formulas_of_plan}
use Rattle.plan_parts.specs.Plan.{PlanParts}
use Rattle.plan_parts.specs.declared.block.Block.{Block}
use Rattle.plan_parts.specs.declared.resource.Resource.{Resource}
use Rattle.precedence.specs.Cone.{preds}
use Rattle.precedence.specs.Identifier.{id}
use Rattle.rows.specs.Valued.{worths_by}
use Rattle.mine_instance.specs.declared.coefs.coef.Coef.{Coef}
use Rattle.mine_instance.specs.Instance.{Instance}

-- the block of a list with this identifier
abbrev pub block_of_id : List Block → ℕ → Option Block
block_of_id listed k = find (λ b. id listed b == k) listed

-- the blocks of a list, ordered by identifier
abbrev pub by_identifier : List Block → List Block
by_identifier listed = filter_map (block_of_id listed) (range_with_len 0 (length listed))

-- cents as millionths of 100 cents: one cent is 10,000 of them
abbrev pub in_hundreds : ℤ → ℤ
in_hundreds cents = cents *ℤ pos 10000

-- the value of a block at each destination, in units of 100 cents
abbrev pub values_of : PlanParts → Block → List ℤ
values_of plan b = map in_hundreds (worths_by (formulas_of_plan plan) b)

-- the coefficient of a block at a destination for a resource, if the block has a tonnage and the resource covers the destination. Blocks and
-- resources are numbered. The mass of a block is in kilograms, the tonnes of a coefficient in millionths
abbrev pub coef_at : ℕ × Block → ℕ → ℕ × Resource → Option Coef
coef_at block d resource =
    if (block.1.kg == 0) || not (list_any (λ e. e == d) resource.1.covers) then None
    else Some (record { b = block.0; d = d; r = resource.0; v = pos (block.1.kg * 1000) })

-- the coefficients of these blocks: for each block, each destination and each resource, in this order
abbrev pub coefs : PlanParts → List Block → List Coef
coefs plan blocks =
    flat_map
    (λ block. flat_map (λ d. filter_map (coef_at block d) (enumerate_from 0 plan.resources)) (range_with_len 0 (length plan.formulas)))
    (enumerate_from 0 blocks)

-- the instance of a plan and of blocks in order of identifier
abbrev pub instance_of : PlanParts → List Block → Instance
instance_of plan blocks = record {
  name = plan.name;
  rate = plan.rate;
  periods = plan.periods;
  destinations = length plan.formulas;
  resources = length plan.resources;
  blocks = blocks;
  preds = preds plan blocks;
  values = map (values_of plan) blocks;
  coefs = coefs plan blocks;
  limits = plan.limits;
}

-- the instance of a list of blocks and a plan
abbrev pub instance : PlanParts → List Block → Instance
instance plan listed = instance_of plan (by_identifier listed)
