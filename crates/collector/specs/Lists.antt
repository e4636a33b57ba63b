-- The lists of rows in a list of items, or the first row that is missing.
use Rattle.std.specs.Prelude.{◌≡◌, ℕ, ◌<◌, true, is_some, List, length, slice_get, Option, Some, None}
use Rattle.std.specs.List.{flat_map}
use Rattle.rows.specs.declared.item.Item.{Item}
use Rattle.rows.specs.declared.item.Valued.{Valued}
use Rattle.collector.specs.declared.missing.Missing.{Missing}
use Rattle.pit_units.specs.declared.or_memory.OrMemory.{OrMemory}
use Rattle.pit_units.specs.declared.or_memory.OrMemory.TheVariants.{Fault, OutOfMemory}
use Rattle.collector.specs.Found.{row_at, end_at}

-- one list for each file: the length is the count of the end mark, and each place has its row
pub record AreLists (files : ℕ) (held : List Item) (lists : List (List Valued)) : Type 0 where
  pub count : length lists ≡ files
  pub ends : (file : ℕ) (rows : List Valued) → slice_get lists file ≡ Some rows → end_at file held ≡ Some (length rows)
  pub rows : (file place : ℕ) (rows : List Valued) → slice_get lists file ≡ Some rows → slice_get rows place ≡ row_at file place held

-- the file has its end mark and each row below its count
abbrev pub IsFull : List Item → ℕ → Type 0
IsFull held file =
    (count : ℕ) × (end_at file held ≡ Some count) × ((place : ℕ) → place < count → is_some (row_at file place held) ≡ true)

-- the file has no end mark, or one with a count above this place
abbrev pub IsOpen : Option ℕ → ℕ → Type 0
IsOpen None place = Unit {0}
IsOpen (Some count) place = place < count

-- the first file that is not full, and the first place in it without a row
pub record IsMissing (files : ℕ) (held : List Item) (file place : ℕ) : Type 0 where
  pub within : file < files
  pub before : (other : ℕ) → other < file → IsFull held other
  pub open_at : IsOpen (end_at file held) place
  pub none : row_at file place held ≡ None
  pub least : (other : ℕ) → other < place → is_some (row_at file other held) ≡ true

-- the error names the missing row
abbrev pub IsFinishFault : ℕ → List Item → OrMemory Missing → Type 0
IsFinishFault files held (Fault missing) = IsMissing files held missing.file missing.place
IsFinishFault files held OutOfMemory = Unit {0}

-- the rows of all files: file after file, and in each file in order of place
abbrev pub AreRows : ℕ → List Item → List Valued → Type 0
AreRows files held rows = (lists : List (List Valued)) × AreLists files held lists × (rows ≡ flat_map (λ list. list) lists)
