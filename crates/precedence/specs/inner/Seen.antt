-- The table of cells in order of appearance, each with its position.
use Rattle.std.specs.Prelude.{◌≡◌, ℕ, ◌<◌, List, length, map, slice_index_or}
use Rattle.std.specs.List.{enumerate_from}
use Rattle.std.specs.List.Sorted.{IsPermutation, IsStrictlyIncreasing}
use Rattle.std.specs.Map.{keys_of}
use Rattle.plan_parts.specs.declared.block.Block.{Block}
use Rattle.precedence.specs.Codes.{place_code}

-- a block's code, with its number
abbrev pub with_place : ℕ × Block → ℕ × ℕ
with_place numbered = (place_code numbered.1, numbered.0)

-- the codes of blocks, with positions from n on
abbrev pub placed : ℕ → List Block → List (ℕ × ℕ)
placed n blocks = map with_place (enumerate_from n blocks)

-- the entry's position is in the list, and its code is the code of the block there
abbrev pub IsPlaced : List Block → ℕ × ℕ → Type 0
IsPlaced listed e = (e.1 < length listed) × ((d : Block) → place_code (slice_index_or listed e.1 d) ≡ e.0)

-- the codes of blocks, in ascending order
pub record IsSortedTable (listed : List Block) (entries : List (ℕ × ℕ)) : Type 0 where
  pub permuted : IsPermutation (placed 0 listed) entries
  pub rising : IsStrictlyIncreasing (keys_of entries)
