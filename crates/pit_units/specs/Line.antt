-- A line in a scratch buffer.
use Rattle.std.specs.Prelude.{ℕ, List, slice_range}
use Rattle.pit_units.specs.declared.scratch.TheConstants.{LINE_END}

-- the line's bytes from a position on
abbrev pub line_in : List ℕ → ℕ → List ℕ
line_in scratch start = slice_range scratch start LINE_END
