-- The blocks of a list by identifier, and the position of each in the list.
use Rattle.std.specs.Prelude.{◌≡◌, ℕ, ◌<◌, List, length, slice_index, slice_index_or}
use Rattle.plan_parts.specs.declared.block.Block.{Block}
use Rattle.precedence.specs.Identifier.{id}

-- blocks in order, and the position of each in a list
pub record NumberingView : Type 0 where
  pub blocks : List Block
  pub positions : List ℕ

-- the blocks of the list by identifier, and their positions in it
pub record IsNumbering (listed : List Block) (n : NumberingView) : Type 0 where
  pub blocks : length n.blocks ≡ length listed
  pub positions : length n.positions ≡ length listed
  -- the block at k has the identifier k
  pub identifiers : (k : ℕ) (d : Block) → k < length listed → id listed (slice_index_or n.blocks k d) ≡ k
  -- and is in the list at the position at k
  pub within : (k : ℕ) → k < length listed → slice_index n.positions k < length listed
  pub at_position : (k : ℕ) (d : Block) → k < length listed → slice_index_or listed (slice_index n.positions k) d ≡ slice_index_or n.blocks k d
  -- each block of the list has an identifier below their number, and the position at that identifier is its own
  pub numbered : (i : ℕ) (d : Block) → i < length listed → id listed (slice_index_or listed i d) < length listed
  pub found : (i : ℕ) (d : Block) → i < length listed → slice_index n.positions (id listed (slice_index_or listed i d)) ≡ i
