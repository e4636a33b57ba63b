use Rattle.std.proofs.Common.{◌≡◌, ◌+◌, ◌≤◌, length}
use Rattle.text_lines.specs.Reading.{read_lines}
use Rattle.text_lines.specs.TextLines.{lines_of, numbered_lines}
use Rattle.text_lines.proofs.line_by_line.read_on.Given as goal

-- the remaining lines lead from the state to the contents of the complete text
abbrev pub invariant-loop-rest : goal.invariant-loop-rest
invariant-loop-rest g l =
    (read_lines g.S.Admit.admit_line l.state (numbered_lines l.number (lines_of l.rest))
    ≡ read_lines g.S.Admit.admit_line l.fn.state (numbered_lines l.first (lines_of l.part)))
    × (l.number + length (lines_of l.rest) ≡ l.first + length (lines_of l.part))
    × (l.number + length l.rest ≤ l.first + length l.part)

abbrev pub decreases-loop-rest : goal.decreases-loop-rest
decreases-loop-rest g l = length l.rest
