-- What a line of a precedence file states, or the kind of its first fault; and the predecessors of a file.
use Rattle.std.specs.Prelude.{ℕ, ◌==◌, nat_lt, List, [], ◌∷◌, ◌++◌, length, Result, Ok, Err, if◌then◌else◌}
use Rattle.pit_units.specs.Steps.{◌>>=◌}
use Rattle.text_lines.specs.Reading.{read_lines}
use Rattle.text_lines.specs.TextLines.{end_of, fields_of, lines_in}
use Rattle.text_lines.specs.declared.text_fault.LineFault.{LineFault}
use Rattle.text_lines.specs.declared.text_fault.TextKind.{TextKind}
use Rattle.text_lines.specs.declared.text_fault.TextKind.TheVariants.{Fields, Missing}
use Rattle.minelib_reading.specs.LineFields.{item_in}
use Rattle.minelib_reading.specs.LineForms.{preds_form}

-- the predecessors of the block `own`, one of n
unfoldable pub preds_stated : ℕ → ℕ → List (List ℕ) → Result (List ℕ) TextKind
preds_stated n own fields = if nat_lt (length fields) 2 then Err Fields else item_in (preds_form n own) fields

-- the predecessors of the lines so far, followed by the predecessors of a line
abbrev pub with_preds : ℕ → List (List ℕ) → List ℕ → Result (List (List ℕ)) TextKind
with_preds n lists line = preds_stated n (length lists) (fields_of line) >>= λ ids. Ok (lists ++ ids ∷ [])

-- the fault of too few lines, at the line after the last
abbrev pub lines_missing : ℕ → LineFault
lines_missing end = record { line = end; kind = Missing }

-- the lists after all lines are read: each of n blocks has one
abbrev pub finish_preds : ℕ → ℕ → List (List ℕ) → Result (List (List ℕ)) LineFault
finish_preds n end lists = if length lists == n then Ok lists else Err (lines_missing end)

-- the predecessors of n blocks in a text, or its first invalid line
abbrev pub preds_in : ℕ → List ℕ → Result (List (List ℕ)) LineFault
preds_in n text = read_lines (with_preds n) [] (lines_in text) >>= finish_preds n (end_of text)
