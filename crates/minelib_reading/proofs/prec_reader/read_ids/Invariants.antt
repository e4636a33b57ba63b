use Rattle.std.proofs.Common.{◌≡◌, ◌<◌, [], length, All}
use Rattle.text_lines.specs.FieldValues.{all_by}
use Rattle.text_lines.specs.StatedFields.{below_in}
use Rattle.text_lines.specs.TextLines.{fields_of}
use Rattle.minelib_reading.proofs.prec_reader.read_ids.Given as goal

-- the remainder of the line adds to the identifiers that were read
abbrev pub invariant-loop-rest : goal.invariant-loop-rest
invariant-loop-rest l =
    (all_by (below_in l.blocks) l.ids.items (fields_of l.rest) ≡ all_by (below_in l.blocks) [] (fields_of l.line))
    × All (λ id. id < l.blocks) l.ids.items

abbrev pub decreases-loop-rest : goal.decreases-loop-rest
decreases-loop-rest l = length (fields_of l.rest)
