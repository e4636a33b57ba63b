-- What a program does for its arguments.
use Rattle.std.specs.Prelude.{◌≡◌, ◌⊎◌, ℕ, List, []}
use Rattle.clap.specs.Words.{App, Text, fault_of}
use Rattle.clap.specs.declared.error.Error.{Error}
use Rattle.command_lines.specs.CommandLine.{AppendsText, IsNoMemoryLine, IsRefusal, RefusesBy}
use Rattle.command_lines.specs.declared.job.JobFault.{JobFault}
use Rattle.command_lines.specs.declared.job.JobFault.TheVariants.{OutOfMemory, Line}

-- the arguments, which begin with the program's name, state something that `Does` holds for; or they are rejected, or request help or
-- the version, and `Shows` holds for the fault
abbrev pub DoesAsked : {A : Type 0} → App → (States Does : A → Type 0) → (Shows : JobFault → Type 0) → List Text → Type 0
DoesAsked {A} app States Does Shows arguments =
    ((asked : A) × (fault_of app arguments ≡ []) × States asked × Does asked)
    ⊎ ((fault : JobFault) × RefusesBy app States arguments fault × IsNoMemoryLine fault × Shows fault)

-- an error of clap is shown: a rejection on the lines for standard error, with the status 2; the help or the version in the text for
-- standard output, with the status 0
abbrev pub ShowsError : Error → (text_old text_new lines_old lines_new : Text) → (status : ℕ) → Type 0
ShowsError error text_old text_new lines_old lines_new status =
    (IsRefusal error × (status ≡ 2) × AppendsText lines_old lines_new × (text_new ≡ text_old))
    ⊎ ((IsRefusal error → ⊥) × (status ≡ 0) × AppendsText text_old text_new × (lines_new ≡ lines_old))

-- refused memory is not shown
abbrev pub ShowsFault : JobFault → (text_old text_new lines_old lines_new : Text) → (status : ℕ) → Type 0
ShowsFault OutOfMemory text_old text_new lines_old lines_new status = ⊥
ShowsFault (Line error) text_old text_new lines_old lines_new status = ShowsError error text_old text_new lines_old lines_new status
