-- Complete lists of items.
use Rattle.std.specs.Prelude.{◌≡◌, ℕ, ◌<◌, ◌≤◌, List, All}
use Rattle.std.specs.List.{count_by}
use Rattle.rows.specs.declared.item.Item.{Item}
use Rattle.rows.specs.declared.item.Item.TheVariants.{Row, End}
use Rattle.collector.specs.Found.{is_row_at, is_end_of}
use Rattle.plan_parts.specs.declared.ranges.TheConstants.{MAX_ROWS}

-- the item belongs to one of these files: a row whose place is below the file's count, or an end mark with this count
abbrev pub Fits : ℕ → (ℕ → ℕ) → Item → Type 0
Fits files counts (Row v) = (v.file < files) × (v.place < counts v.file)
Fits files counts (End file count) = (file < files) × (count ≡ counts file)

-- each file has exactly one end mark, with a count of at most 1,000,000, and each place below that count exactly once, and there is
-- no other item
pub record IsComplete (files : ℕ) (items : List Item) : Type 0 where
  pub counts : ℕ → ℕ
  pub few : (file : ℕ) → file < files → counts file ≤ MAX_ROWS
  pub ends : (file : ℕ) → file < files → count_by (is_end_of file) items ≡ 1
  pub rows : (file place : ℕ) → file < files → place < counts file → count_by (is_row_at file place) items ≡ 1
  pub others : All (Fits files counts) items
