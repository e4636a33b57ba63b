-- Reads the lines of a text while a feed gives it.
use Rattle.std.specs.Prelude.{◌≡◌, ℕ, ◌-◌, ◌≤◌, List, length, IfSome, Result, Ok, Err}
use Rattle.devices.specs.feeds.FeedState.{FeedState}
use Rattle.text_lines.specs.Reading.{read_lines}
use Rattle.text_lines.specs.TextLines.{end_of, lines_in}
use Rattle.text_lines.specs.declared.text_fault.LineFault.{LineFault}
use Rattle.text_lines.specs.declared.text_fault.TextKind.{TextKind}

-- a text of at most `limit` bytes, with the number of bytes that a feed gave: the bytes that it had left, if it reported them
pub record IsTextOf (limit : ℕ) (old new : FeedState) (text : List ℕ) : Type 0 where
  pub reported : IfSome old.remaining (λ bytes. text ≡ bytes)
  pub short : length text ≤ limit
  pub whole : length text ≡ new.given - old.given

-- the result of reading the lines of a text: the number of the line after the last, or the first invalid line
abbrev pub IsReading : {S : Type 0} → (S → List ℕ → Result S TextKind) → S → S → Result ℕ LineFault → List ℕ → Type 0
IsReading admit before after (Ok end) text = (read_lines admit before (lines_in text) ≡ Ok after) × (end ≡ end_of text)
IsReading admit before after (Err fault) text = read_lines admit before (lines_in text) ≡ Err fault

-- the result of reading the lines of a feed's text
pub record IsFedReading {S : Type 0} (admit : S → List ℕ → Result S TextKind) (limit : ℕ) (old new : FeedState) (before after : S)
    (answer : Result ℕ LineFault) : Type 0 where
  pub text : List ℕ
  pub is_text : IsTextOf limit old new text
  pub reads : IsReading admit before after answer text
