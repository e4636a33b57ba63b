-- What a command finds and leaves.
use Rattle.std.specs.Prelude.{◌≡◌, ℕ, Bool, List}
use Rattle.devices.specs.files.Opening.{Opening}
use Rattle.run_threads.specs.Starts.{StartsView}
use Rattle.command_io.specs.FaultLine.{IsDoneOrRefused}
use Rattle.command_io.specs.declared.refused.Refused.{Refused}

pub record World : Type 0 where
  -- whether created files report their content
  pub reports : Bool
  -- the requests to open files so far, and the paths of the slots that were made
  pub opened : List Opening
  pub made : List (List ℕ)
  -- the thread starts
  pub starts : StartsView
  -- the text for standard output, and the lines for standard error
  pub text : List ℕ
  pub lines : List ℕ

-- nothing but the requests to open files, the text and the lines changed
abbrev pub MakesNothing : (old new : World) → Type 0
MakesNothing old new = (new.made ≡ old.made) × (new.starts ≡ old.starts)

-- nothing but the text and the lines changed
abbrev pub OnlyPrints : (old new : World) → Type 0
OnlyPrints old new = (new.opened ≡ old.opened) × MakesNothing old new

-- nothing but the requests to open files changed
abbrev pub OnlyOpens : (old new : World) → Type 0
OnlyOpens old new = MakesNothing old new × (new.text ≡ old.text) × (new.lines ≡ old.lines)

-- how a command ends that turned the world `old` into `new`, by what it then has done, or why it failed
abbrev pub CommandEnds : (Done : (old new : World) → Type 0) → (Why : (old new : World) → Refused → Type 0) → (old new : World) → (status : ℕ) → Type 0
CommandEnds Done Why old new status = IsDoneOrRefused (λ _ _. Done old new) (Why old new) old.text new.text old.lines new.lines status
