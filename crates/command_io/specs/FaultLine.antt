-- The line that the program prints for an error, and the program's exit status.
use Rattle.std.specs.Prelude.{◌≡◌, ◌≢◌, ℕ, ◌++◌, ◌⊎◌, List, [], ◌∷◌, codes}
use Rattle.refusals.specs.declared.refusal.Refusal.TheVariants.{OutOfMemory}
use Rattle.command_io.specs.Refused.{refused_text, status_of}
use Rattle.command_io.specs.declared.refused.Refused.{Refused}
use Rattle.command_io.specs.declared.refused.Refused.TheVariants.{Run}

-- a line with these words, after the program's name
abbrev pub program_line : List ℕ → List ℕ
program_line words = codes "pitc: " ++ words ++ 10 ∷ []

-- one line was appended
abbrev pub AppendsLine : List ℕ → List ℕ → Type 0
AppendsLine old new = (words : List ℕ) × (new ≡ old ++ program_line words)

-- the program ends with this status, and a line with these words was appended; or it ends with status 4, since memory was refused,
-- and no line was appended
abbrev pub EndsWith : ℕ → List ℕ → List ℕ → List ℕ → ℕ → Type 0
EndsWith status words old new answered = ((answered ≡ status) × (new ≡ old ++ program_line words)) ⊎ ((answered ≡ 4) × (new ≡ old))

-- the same for an error, by its status and its words; if the error is refused memory, no line was appended
abbrev pub Ends : Refused → List ℕ → List ℕ → ℕ → Type 0
Ends refused old new status = EndsWith (status_of refused) (refused_text refused) old new status × (refused ≡ Run OutOfMemory → new ≡ old)

-- the same for an error with this property
abbrev pub EndsBy : (Refused → Type 0) → List ℕ → List ℕ → ℕ → Type 0
EndsBy Why old new status = (refused : Refused) × Why refused × Ends refused old new status

-- how a command ends, by the text for standard output and the lines for standard error, before and after. With status 0, `Done`
-- holds for the text, and no line was appended. With another status, the text is unchanged, and the line of an error with the
-- property `Why` was appended, unless memory for it was refused
pub record IsDoneOrRefused (Done : (text_old text_new : List ℕ) → Type 0) (Why : Refused → Type 0) (text_old text_new lines_old lines_new : List ℕ)
    (status : ℕ) : Type 0 where
  pub done : status ≡ 0 → Done text_old text_new
  pub quiet : status ≡ 0 → lines_new ≡ lines_old
  pub kept : status ≢ 0 → text_new ≡ text_old
  pub refused : status ≢ 0 → EndsBy Why lines_old lines_new status

-- the run failed: a line was appended; or the status is 4, since memory was refused, and no line was appended
abbrev pub EndsRefused : List ℕ → List ℕ → ℕ → Type 0
EndsRefused old new status = (status ≢ 0) × (status ≢ 4 → AppendsLine old new) × (status ≡ 4 → new ≡ old)
