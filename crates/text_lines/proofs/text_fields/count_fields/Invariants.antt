use Rattle.std.proofs.Common.{◌≡◌, ◌+◌, ◌≤◌, length}
use Rattle.text_lines.specs.TextLines.{fields_of}
use Rattle.text_lines.proofs.text_fields.count_fields.Given as goal

-- the counted fields and the remaining fields are the fields of the line; each has at least a byte
abbrev pub invariant-loop-following : goal.invariant-loop-following
invariant-loop-following l = (l.count + length (fields_of l.rest) ≡ length (fields_of l.line)) × (l.count + length l.rest ≤ length l.line)

abbrev pub decreases-loop-following : goal.decreases-loop-following
decreases-loop-following l = length l.rest
