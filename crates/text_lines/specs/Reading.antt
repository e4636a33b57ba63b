-- The lines of a text one after the other, up to the first invalid one, and the result of a reader.
use Rattle.std.specs.Prelude.{◌≡◌, ℕ, List, [], ◌∷◌, ◌++◌, Result, Ok, Err}
use Rattle.pit_units.specs.Steps.{◌>>=◌}
use Rattle.pit_units.specs.OrMemory.{Gives}
use Rattle.pit_units.specs.declared.or_memory.OrMemory.{OrMemory}
use Rattle.pit_units.specs.declared.or_memory.OrMemory.TheVariants.{Fault, OutOfMemory}
use Rattle.text_lines.specs.TextLines.{Line}
use Rattle.text_lines.specs.declared.text_fault.LineFault.{LineFault}
use Rattle.text_lines.specs.declared.text_fault.TextFault.{TextFault}
use Rattle.text_lines.specs.declared.text_fault.TextFile.{TextFile}
use Rattle.text_lines.specs.declared.text_fault.TextKind.{TextKind}

-- an error, at the line of this number
abbrev pub at_line : {S : Type 0} → ℕ → Result S TextKind → Result S LineFault
at_line n (Ok s) = Ok s
at_line n (Err kind) = Err (record { line = n; kind = kind })

-- the contents of these lines after the lines before them, if a rule admits each line after the lines before it; or the first invalid
-- line
abbrev pub read_lines : {S : Type 0} → (S → List ℕ → Result S TextKind) → S → List Line → Result S LineFault
read_lines admit so_far [] = Ok so_far
read_lines admit so_far (line ∷ lines) = at_line line.number (admit so_far line.text) >>= λ next. read_lines admit next lines

-- the error is the error of the first invalid line: the lines before it are valid, and after them the line has this error
pub record IsFirstFault {S : Type 0} (admit : S → List ℕ → Result S TextKind) (so_far : S) (lines : List Line)
    (fault : LineFault) : Type 0 where
  pub before : List Line
  pub bad : Line
  pub following : List Line
  pub cut : lines ≡ before ++ bad ∷ following
  pub place : fault.line ≡ bad.number
  pub state : S
  pub stated : read_lines admit so_far before ≡ Ok state
  pub fails : admit state bad.text ≡ Err fault.kind

-- an invalid line, in a file
abbrev pub fault_in_file : TextFile → LineFault → TextFault
fault_in_file file fault = record { file = file; line = fault.line; kind = fault.kind }

abbrev pub in_file : {A : Type 0} → TextFile → Result A LineFault → Result A TextFault
in_file file (Ok x) = Ok x
in_file file (Err fault) = Err (fault_in_file file fault)

-- the reason why a file of an instance was not read
abbrev pub error_in_file : TextFile → OrMemory LineFault → OrMemory TextFault
error_in_file file (Fault fault) = Fault (fault_in_file file fault)
error_in_file file OutOfMemory = OutOfMemory

-- a call that reads lines leaves the stated state, or it returns the stated error, unless memory was refused
abbrev pub Leaves : {S A F : Type 0} → S → Result A (OrMemory F) → Result S F → Type 0
Leaves after = Gives (λ _. after)
