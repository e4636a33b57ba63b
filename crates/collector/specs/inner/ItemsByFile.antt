-- How a collector stores the items of each file.
use Rattle.std.specs.Prelude.{◌≡◌, ℕ, ◌<◌, ◌≤◌, ◌==◌, ◌||◌, if◌then◌else◌, nat_le, nat_lt, is_some, true, List, [], length, slice_get, Option, Some, None}
use Rattle.std.specs.Option.{option_and_then, unwrap_or, option_map}
use Rattle.rows.specs.declared.item.Item.{Item}
use Rattle.rows.specs.declared.item.Item.TheVariants.{Row, End}
use Rattle.rows.specs.declared.item.Valued.{Valued}
use Rattle.collector.specs.declared.file_items.FileItems.{FileItems}
use Rattle.collector.specs.declared.add_fault.AddFault.{AddFault}
use Rattle.collector.specs.declared.add_fault.AddFault.TheVariants.{Double, Stranger, AfterEnd, SecondEnd, BadCount}
use Rattle.collector.specs.declared.missing.Missing.{Missing}
use Rattle.pit_units.specs.declared.or_memory.OrMemory.{OrMemory}
use Rattle.pit_units.specs.declared.or_memory.OrMemory.TheVariants.{Fault, OutOfMemory}
use Rattle.collector.specs.Fault.{is_after}
use Rattle.collector.specs.Lists.{IsOpen}
use Rattle.collector.specs.inner.WithAt.{with_at}
use Rattle.collector.specs.Found.{row_at, end_at, has_past}
use Rattle.plan_parts.specs.declared.ranges.TheConstants.{MAX_ROWS}

-- the row itself, if it has this place
abbrev pub if_at : ℕ → Valued → Option Valued
if_at place v = if v.place == place then Some v else None

-- the stored row at a place, if there is one
abbrev pub slot : List Valued → ℕ → Option Valued
slot rows place = option_and_then (if_at place) (slice_get rows place)

-- the stored rows of a file
abbrev pub rows_of_file : List FileItems → ℕ → List Valued
rows_of_file items_by_file file = unwrap_or (option_map (λ s. s.rows) (slice_get items_by_file file)) []

-- the count of a file's stored end mark
abbrev pub end_mark_of_file : List FileItems → ℕ → Option ℕ
end_mark_of_file items_by_file file = option_and_then (λ s. s.end) (slice_get items_by_file file)

-- nothing is stored
abbrev pub IsBare : FileItems → Type 0
IsBare s = (s.rows ≡ []) × (s.end ≡ None)

-- the fault of a row with this place, after these rows and this end mark of its file
abbrev pub row_fault : List Valued → Option ℕ → ℕ → Option AddFault
row_fault rows end place =
    if is_some (slot rows place) then Some Double
    else if nat_le MAX_ROWS place then Some Stranger
    else if is_after end place then Some AfterEnd
    else None

-- the fault of an end mark with this count, after these rows and this end mark of its file
abbrev pub end_fault : List Valued → Option ℕ → ℕ → Option AddFault
end_fault rows end count =
    if is_some end then Some SecondEnd
    else if nat_lt MAX_ROWS count || nat_lt count (length rows) then Some BadCount
    else None

-- the fault of an item, by the rows and the end marks of all files
abbrev pub item_fault : ℕ → (ℕ → List Valued) → (ℕ → Option ℕ) → Item → Option AddFault
item_fault files rows ends (Row v) = if nat_le files v.file then Some Stranger else row_fault (rows v.file) (ends v.file) v.place
item_fault files rows ends (End file count) = if nat_le files file then Some Stranger else end_fault (rows file) (ends file) count

-- the file of an item
abbrev pub file_of : Item → ℕ
file_of (Row v) = v.file
file_of (End file count) = file

-- each file has the same rows and end mark as before
abbrev pub AreSame : (ℕ → List Valued) → (ℕ → Option ℕ) → (ℕ → List Valued) → (ℕ → Option ℕ) → Type 0
AreSame rows ends rows' ends' = ((file : ℕ) → rows' file ≡ rows file) × ((file : ℕ) → ends' file ≡ ends file)

-- the item was added to its file, and nothing else changed
abbrev pub AreStored : Item → (ℕ → List Valued) → (ℕ → Option ℕ) → (ℕ → List Valued) → (ℕ → Option ℕ) → Type 0
AreStored (Row v) rows ends rows' ends' =
    ((file : ℕ) → rows' file ≡ (if v.file == file then with_at (rows file) v.place v else rows file)) × ((file : ℕ) → ends' file ≡ ends file)
AreStored (End f count) rows ends rows' ends' =
    ((file : ℕ) → rows' file ≡ rows file) × ((file : ℕ) → ends' file ≡ (if f == file then Some count else ends file))

-- the items of this file are these rows and this end mark
pub record AreItemsOfFile (held : List Item) (file : ℕ) (rows : List Valued) (end : Option ℕ) : Type 0 where
  pub row : (place : ℕ) → row_at file place held ≡ slot rows place
  pub ended : end_at file held ≡ end
  pub past : (place : ℕ) → has_past file place held ≡ nat_lt place (length rows)
  pub few : length rows ≤ MAX_ROWS
  pub closed : (count : ℕ) → end ≡ Some count → length rows ≤ count

-- the items of each file are its rows and its end mark, and no item belongs to another file
pub record AreGrouped (files : ℕ) (held : List Item) (rows : ℕ → List Valued) (ends : ℕ → Option ℕ) : Type 0 where
  pub outside : (file : ℕ) → files ≤ file → rows file ≡ []
  pub items_of_file : (file : ℕ) → AreItemsOfFile held file (rows file) (ends file)

-- the end mark's count is the number of rows, and each row is at its place
abbrev pub IsFilled : List Valued → Option ℕ → Type 0
IsFilled rows end = (end ≡ Some (length rows)) × ((place : ℕ) → place < length rows → is_some (slot rows place) ≡ true)

-- the first place without a row, if there is no end mark or its count is larger
abbrev pub IsLacking : List Valued → Option ℕ → ℕ → Type 0
IsLacking rows end place =
    (slot rows place ≡ None) × ((other : ℕ) → other < place → is_some (slot rows other) ≡ true) × IsOpen end place

-- the error names the first file that is not filled
abbrev pub IsFirstLacking : List FileItems → OrMemory Missing → Type 0
IsFirstLacking items_by_file (Fault missing) =
    (missing.file < length items_by_file)
    × ((other : ℕ) → other < missing.file → IsFilled (rows_of_file items_by_file other) (end_mark_of_file items_by_file other))
    × IsLacking (rows_of_file items_by_file missing.file) (end_mark_of_file items_by_file missing.file) missing.place
IsFirstLacking items_by_file OutOfMemory = ⊥
