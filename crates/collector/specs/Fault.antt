-- The items that a collector rejects.
use Rattle.std.specs.Prelude.{ℕ, Bool, false, if◌then◌else◌, ◌||◌, nat_le, nat_lt, is_some, List, Option, Some, None}
use Rattle.rows.specs.declared.item.Item.{Item}
use Rattle.rows.specs.declared.item.Item.TheVariants.{Row, End}
use Rattle.collector.specs.declared.add_fault.AddFault.{AddFault}
use Rattle.collector.specs.declared.add_fault.AddFault.TheVariants.{Double, Stranger, AfterEnd, SecondEnd, BadCount}
use Rattle.collector.specs.Found.{row_at, end_at, has_past}
use Rattle.plan_parts.specs.declared.ranges.TheConstants.{MAX_ROWS}

-- there is an end mark, and the place is not below its count
abbrev pub is_after : Option ℕ → ℕ → Bool
is_after None place = false
is_after (Some count) place = nat_le count place

-- the first fault of an item after these items were added
abbrev pub fault : ℕ → List Item → Item → Option AddFault
fault files held (Row v) =
    if is_some (row_at v.file v.place held) then Some Double
    else if nat_le files v.file || nat_le MAX_ROWS v.place then Some Stranger
    else if is_after (end_at v.file held) v.place then Some AfterEnd
    else None
fault files held (End file count) =
    if nat_le files file then Some Stranger
    else if is_some (end_at file held) then Some SecondEnd
    else if nat_lt MAX_ROWS count || has_past file count held then Some BadCount
    else None
