use Rattle.std.proofs.Common.{◌≡◌, ◌≤◌, ◌+◌, ◌-◌, [], length}
use Rattle.text_lines.specs.FieldValues.{all_by}
use Rattle.text_lines.specs.StatedFields.{decimal_in}
use Rattle.text_lines.specs.TextLines.{fields_of}
use Rattle.minelib_reading.proofs.model.items.read_decimals.Given as goal

-- the remainder of the line adds to the decimals that were read, which are at most `count`
abbrev pub invariant-loop-rest : goal.invariant-loop-rest
invariant-loop-rest l =
    (all_by decimal_in l.row.items (fields_of l.rest) ≡ all_by decimal_in [] (fields_of l.line))
    × (length l.row.items + length (fields_of l.rest) ≡ length (fields_of l.line))
    × (length l.row.items ≤ l.count)

abbrev pub decreases-loop-rest : goal.decreases-loop-rest
decreases-loop-rest l = l.count - length l.row.items
