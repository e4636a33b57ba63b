-- How contracts see the list of coefficients: by the blocks that have tonnage and the covered pairs.
use Rattle.std.specs.Prelude.{ℕ, ◌*◌, ◌≤◌, ◌==◌, List, [], ◌∷◌, pos, length, map, if◌then◌else◌}
use Rattle.std.specs.List.{flat_map, enumerate_from}
use Rattle.plan_parts.specs.declared.block.Block.{Block}
use Rattle.mine_instance.specs.coefs.CoveredPairs.{coef_of}
use Rattle.mine_instance.specs.declared.coefs.coef.Coef.{Coef}
use Rattle.mine_instance.specs.declared.coefs.lazy.LazyCoefs.TheInside.{Inside}
use Rattle.mine_instance.specs.declared.coefs.lazy.HeavyBlock.{HeavyBlock}
use Rattle.plan_parts.specs.declared.ranges.TheConstants.{MAX_BLOCKS, MAX_DESTINATIONS, MAX_RESOURCES}

-- a block, if it has tonnage
abbrev pub heavy_one : ℕ × Block → List HeavyBlock
heavy_one numbered = if numbered.1.kg == 0 then [] else record { b = numbered.0; kg = numbered.1.kg } ∷ []

-- the blocks that have tonnage, of blocks in order of identifier
abbrev pub heavy_of : List Block → List HeavyBlock
heavy_of blocks = flat_map heavy_one (enumerate_from 0 blocks)

-- the coefficient of such a block at a destination and a resource
abbrev pub heavy_coef : HeavyBlock → ℕ × ℕ → Coef
heavy_coef block = coef_of block.b (pos (block.kg * 1000))

abbrev pub heavy_coefs : List (ℕ × ℕ) → HeavyBlock → List Coef
heavy_coefs pairs block = map (heavy_coef block) pairs

abbrev pub lazy_coefs : List (ℕ × ℕ) → List HeavyBlock → List Coef
lazy_coefs pairs heavy = flat_map (heavy_coefs pairs) heavy

abbrev pub lazy_coefs_of : Inside → List Coef
lazy_coefs_of f = lazy_coefs f.pairs.items f.heavy.items

-- so few of both that 64 bits can hold the number of coefficients
pub record KeepsFew (f : Inside) : Type 0 where
  pub heavy : length f.heavy.items ≤ MAX_BLOCKS
  pub pairs : length f.pairs.items ≤ MAX_DESTINATIONS * MAX_RESOURCES
