-- The coefficients of blocks at pairs of a destination and a resource, for all blocks at once.
use Rattle.std.specs.Prelude.{ℕ, ◌*◌, ◌==◌, Bool, List, [], ℤ, pos, length, map, filter, if◌then◌else◌}
use Rattle.std.specs.List.{list_any, flat_map, range_with_len, enumerate_from}
use Rattle.plan_parts.specs.Plan.{PlanParts}
use Rattle.plan_parts.specs.declared.block.Block.{Block}
use Rattle.plan_parts.specs.declared.resource.Resource.{Resource}
use Rattle.mine_instance.specs.declared.coefs.coef.Coef.{Coef}

-- the resource covers the destination
abbrev pub covers : ℕ → ℕ × Resource → Bool
covers d numbered = list_any (λ e. e == d) numbered.1.covers

-- the numbers of a destination and a resource
abbrev pub pair_with : ℕ → ℕ × Resource → ℕ × ℕ
pair_with d numbered = (d, numbered.0)

-- a destination with each resource that covers it, as numbers
abbrev pub covering : List Resource → ℕ → List (ℕ × ℕ)
covering resources d = map (pair_with d) (filter (covers d) (enumerate_from 0 resources))

-- the pairs of a destination and a resource that covers it
abbrev pub covered : PlanParts → List (ℕ × ℕ)
covered plan = flat_map (covering plan.resources) (range_with_len 0 (length plan.formulas))

-- the coefficient of a block and its tonnes at a destination and a resource
abbrev pub coef_of : ℕ → ℤ → ℕ × ℕ → Coef
coef_of k tonnes pair = record { b = k; d = pair.0; r = pair.1; v = tonnes }

-- the coefficient of block k, whose tonnage is in kilograms
abbrev pub block_coef : ℕ → Block → ℕ × ℕ → Coef
block_coef k b = coef_of k (pos (b.kg * 1000))

-- the coefficients of a block; a block without tonnage has none
abbrev pub block_coefs : List (ℕ × ℕ) → ℕ × Block → List Coef
block_coefs pairs numbered = if numbered.1.kg == 0 then [] else map (block_coef numbered.0 numbered.1) pairs

-- the coefficients of blocks in order of identifier
abbrev pub coefs_of : List (ℕ × ℕ) → List Block → List Coef
coefs_of pairs blocks = flat_map (block_coefs pairs) (enumerate_from 0 blocks)
