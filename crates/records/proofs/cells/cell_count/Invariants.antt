use Rattle.std.proofs.Common.{◌≡◌, length, map, take}
use Rattle.csv.specs.Records.{fields_of}
use Rattle.records.specs.Cells.{trimmed}
use Rattle.records.specs.RecordCells.{without_empty_end}
use Rattle.records.proofs.cells.cell_count.Given as goal

abbrev pub invariant-loop-i : goal.invariant-loop-i
invariant-loop-i l = l.count ≡ length (without_empty_end (take l.i (map trimmed (fields_of l.row))))
