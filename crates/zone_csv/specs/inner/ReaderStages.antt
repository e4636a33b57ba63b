-- How contracts see the parts of a zone file's reader as what it has yet to return.
use Rattle.std.specs.Prelude.{ℕ, ◌+◌, ◌≤◌, List, [], Some, None, Result}
use Rattle.std.specs.Result.{ok_prefix}
use Rattle.plan_parts.specs.declared.ranges.TheConstants.{MAX_ROWS}
use Rattle.records.specs.RecordReader.{RecordReaderView, Rows, Over, GaveUp}
use Rattle.plan_parts.specs.declared.block.Block.{Block}
use Rattle.plan_parts.specs.declared.grid.Grid.{Grid}
use Rattle.zone_csv.specs.ZoneReaderView.{ZoneReaderView, Ahead, Reported, NoMemory}
use Rattle.zone_csv.specs.Zone.{results_of_records, results_of_rows, first_fault}
use Rattle.zone_csv.specs.declared.row_fault.RowFault.{RowFault}
use Rattle.pit_units.specs.declared.or_memory.OrMemory.{OrMemory}
use Rattle.pit_units.specs.declared.or_memory.OrMemory.TheVariants.{Fault, OutOfMemory}
use Rattle.zone_csv.specs.declared.zone_reader.Stage.{Stage}
use Rattle.zone_csv.specs.declared.zone_reader.Stage.TheVariants as stage

-- what these results of rows state
abbrev pub ahead : List (Result Block RowFault) → ZoneReaderView
ahead results = Ahead (ok_prefix results) (first_fault results)

-- a fault that was returned
abbrev pub reported_fault : OrMemory RowFault → ZoneReaderView
reported_fault (Fault fault) = Reported (Some fault)
reported_fault OutOfMemory = NoMemory

-- what remains to return at each stage, with these records unread
abbrev pub reader_view : Grid → ℕ → Stage → RecordReaderView → ZoneReaderView
reader_view grid zone stage.Header (Rows rows) = ahead (results_of_records grid zone rows)
reader_view grid zone stage.Header Over = ahead (results_of_records grid zone [])
reader_view grid zone stage.Header GaveUp = NoMemory
reader_view grid zone (stage.Body columns number) (Rows rows) = ahead (results_of_rows grid zone columns rows number)
reader_view grid zone (stage.Body columns number) Over = ahead []
reader_view grid zone (stage.Body columns number) GaveUp = NoMemory
reader_view grid zone stage.Ended ahead = Reported None
reader_view grid zone (stage.Failed fault) ahead = reported_fault fault

-- the rows are counted up to the first one above the maximum
abbrev pub IsCounted : Stage → Type 0
IsCounted stage.Header = Unit {0}
IsCounted (stage.Body columns number) = number ≤ MAX_ROWS + 2
IsCounted stage.Ended = Unit {0}
IsCounted (stage.Failed fault) = Unit {0}
