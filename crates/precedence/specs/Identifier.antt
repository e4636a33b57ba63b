-- The identifiers of listed blocks: the number of blocks of the complete list that come before, ordered by bench, then from south to north,
-- then from west to east.
use Rattle.std.specs.Prelude.{◌≡◌, ℕ, ◌<◌, ◌==◌, ◌&&◌, ◌||◌, Bool, true, false, List, length, map, count_by, nat_lt, slice_index_or}
use Rattle.plan_parts.specs.declared.block.Block.{Block}
use Rattle.rows.specs.declared.item.Valued.{Valued}

-- the blocks of rows
abbrev pub blocks_of_rows : List Valued → List Block
blocks_of_rows rows = map (λ row. row.block) rows

-- `a` comes before `b`: by z, then y, then x
abbrev pub comes_before : Block → Block → Bool
comes_before a b = nat_lt a.z b.z || ((a.z == b.z) && (nat_lt a.y b.y || ((a.y == b.y) && nat_lt a.x b.x)))

-- the identifier of a block: the number of blocks of the list that come before it
abbrev pub id : List Block → Block → ℕ
id listed b = count_by (λ a. comes_before a b) listed

-- both are in the same cell of the grid
abbrev pub is_same_cell : Block → Block → Bool
is_same_cell a b = (a.x == b.x) && (a.y == b.y) && (a.z == b.z)

-- `again` is the first position whose cell is the cell of an earlier position, and `first` is that earlier position
pub record IsFirstAgain (listed : List Block) (first again : ℕ) : Type 0 where
  pub before : first < again
  pub within : again < length listed
  pub same : (d : Block) → is_same_cell (slice_index_or listed first d) (slice_index_or listed again d) ≡ true
  pub none_before : (i j : ℕ) (d : Block) → i < j → j < again → is_same_cell (slice_index_or listed i d) (slice_index_or listed j d) ≡ false
