-- What a line of a block file states, or the kind of its first fault; and the blocks of a file.
use Rattle.std.specs.Prelude.{ℕ, ◌==◌, not, List, [], ◌∷◌, ◌++◌, length, Result, Ok, Err, if◌then◌else◌}
use Rattle.pit_units.specs.Steps.{◌>>=◌}
use Rattle.plan_parts.specs.declared.block.Block.{Block}
use Rattle.text_lines.specs.Reading.{read_lines}
use Rattle.text_lines.specs.TextLines.{fields_of, lines_in}
use Rattle.text_lines.specs.declared.text_fault.LineFault.{LineFault}
use Rattle.text_lines.specs.declared.text_fault.TextKind.{TextKind}
use Rattle.text_lines.specs.declared.text_fault.TextKind.TheVariants.{Fields}
use Rattle.minelib_reading.specs.LineFields.{item_in}
use Rattle.minelib_reading.specs.LineForms.{block_form}

-- the block of a line after `before` others, which has seven fields
unfoldable pub block_stated : ℕ → List (List ℕ) → Result Block TextKind
block_stated before fields = if not (length fields == 7) then Err Fields else item_in (block_form before) fields

-- the blocks of the lines so far, followed by the block of a line
abbrev pub with_block : List Block → List ℕ → Result (List Block) TextKind
with_block blocks line = block_stated (length blocks) (fields_of line) >>= λ b. Ok (blocks ++ b ∷ [])

-- the blocks of a text, or its first invalid line
abbrev pub blocks_in : List ℕ → Result (List Block) LineFault
blocks_in text = read_lines with_block [] (lines_in text)
