-- What `pitc` does for its arguments.
use Rattle.std.specs.Prelude.{◌≡◌, ◌⊎◌, ℕ, List, Option, map, string_bytes}
use Rattle.check_command.specs.Checked.{IsCheckStatus, IsFoundIn, ReportsFiles}
use Rattle.command_io.specs.Ending.{IsDoneOrReported}
use Rattle.command_io.specs.FaultLine.{IsDoneOrRefused}
use Rattle.command_io.specs.PlanFile.{IsNotBegun, IsPlanAt}
use Rattle.command_io.specs.RunState.{inputs_of_plan}
use Rattle.command_io.specs.World.{OnlyPrints, CommandEnds, MakesNothing, OnlyOpens, World}
use Rattle.command_io.specs.declared.refused.Refused.{Refused}
use Rattle.command_io.specs.declared.refused.Refused.TheVariants.{Run}
use Rattle.command_lines.specs.Asked.{DoesAsked, ShowsFault}
use Rattle.command_lines.specs.CommandLine.{StatesJob, program}
use Rattle.command_lines.specs.declared.job.Job.{Job}
use Rattle.command_lines.specs.declared.job.Job.TheVariants.{Check, Compile}
use Rattle.command_lines.specs.declared.job.RunArguments.{RunArguments}
use Rattle.compile_command.specs.BaseFiles.{IsNoCompileAt, ReportsRowsAt}
use Rattle.compile_command.specs.Printed.{IsNoInput, IsNotPrinted, PrintsInput}
use Rattle.compile_command.specs.Task.{TouchesNoFile}
use Rattle.devices.specs.feeds.FeedState.{FeedState}
use Rattle.devices.specs.files.Opening.{Opening}
use Rattle.devices.specs.sinks.FileSinkView.{FileSinkView}
use Rattle.pit_compile.specs.declared.sinks.Sinks.{Sinks}
use Rattle.plan_parts.specs.Plan.{PlanParts}
use Rattle.refusals.specs.declared.refusal.Refusal.TheVariants.{OutOfMemory}

-- what the pipe form did, by the state of its input before and after, or why it has no model, which was reported; it opened and made
-- nothing
abbrev pub Pipes : (input_old input_new : FeedState) → (old new : World) → (status : ℕ) → Type 0
Pipes input_old input_new old new status =
    IsDoneOrReported (λ status. CommandEnds (PrintsInput input_old input_new) (IsNotPrinted input_old input_new) old new status × TouchesNoFile old new)
    (λ left refused. IsNoInput input_old input_new refused × OnlyOpens old left × TouchesNoFile old left) new status

-- by the states of feeds of files
module _ {F : Type 0} (state : F → FeedState) where
  -- the plan in the file of the arguments, which was opened first, was compiled to the files of BASE
  pub record CompilesFrom (run : RunArguments) (sinks : Option (Sinks FileSinkView)) (old new : World) : Type 0 where
    pub plan : PlanParts
    pub between : List Opening
    pub read : IsPlanAt state (string_bytes run.plan) old.opened between plan
    pub reported : ReportsRowsAt (string_bytes run.out) (inputs_of_plan plan (map string_bytes run.zones.items) run.settings) sinks
        (record old { opened = between }) new

  -- why that plan was not compiled
  pub record IsNoCompileFrom (run : RunArguments) (sinks : Option (Sinks FileSinkView)) (old new : World) (refused : Refused) : Type 0 where
    pub plan : PlanParts
    pub between : List Opening
    pub read : IsPlanAt state (string_bytes run.plan) old.opened between plan
    pub why : IsNoCompileAt (string_bytes run.out) (inputs_of_plan plan (map string_bytes run.zones.items) run.settings) state sinks
        (record old { opened = between }) new refused

  -- why nothing was compiled and no status is known yet: a plan file has no plan, or memory was refused; nothing but the requests to open
  -- files changed
  abbrev pub IsNoJob : Job → (old new : World) → Refused → Type 0
  IsNoJob (Compile run) old new refused = IsNotBegun state (string_bytes run.plan) old.opened new.opened refused
  IsNoJob (Check base) old new refused = ⊥

  -- and by the paths at which files were opened
  module _ {T : Type 0} (path : T → List ℕ) where
    -- the job was done, or why not
    abbrev pub DoesJob : Job → Option (Sinks FileSinkView) → (old new : World) → (status : ℕ) → Type 0
    DoesJob (Compile run) sinks old new status = CommandEnds (CompilesFrom run sinks) (IsNoCompileFrom run sinks) old new status
    DoesJob (Check base) sinks old new status =
        IsDoneOrRefused (ReportsFiles (string_bytes base) state path old.opened new.opened)
        (IsFoundIn (string_bytes base) state path old.opened new.opened) old.text new.text old.lines new.lines status
        × IsCheckStatus status × MakesNothing old new

    -- what was done for arguments after the program's name
    abbrev pub DoesArguments : List (List ℕ) → Option (Sinks FileSinkView) → (old new : World) → (status : ℕ) → Type 0
    DoesArguments arguments sinks old new status =
        DoesAsked program (StatesJob arguments) (λ job. DoesJob job sinks old new status)
        (λ fault. ShowsFault fault old.text new.text old.lines new.lines status × OnlyPrints old new) arguments

  -- why nothing was done for them
  abbrev pub IsNothingDone : List (List ℕ) → (old new : World) → Refused → Type 0
  IsNothingDone arguments old new refused =
      DoesAsked program (StatesJob arguments) (λ job. IsNoJob job old new refused)
      (λ fault. (refused ≡ Run OutOfMemory) × (new.opened ≡ old.opened)) arguments

  -- what was done for them, or why nothing was done, which was reported
  abbrev pub WorksFor : {T : Type 0} → (T → List ℕ) → List (List ℕ) → (old new : World) → (status : ℕ) → Type 0
  WorksFor path arguments old new status =
      IsDoneOrReported (λ status. (sinks : Option (Sinks FileSinkView)) × DoesArguments path arguments sinks old new status)
      (λ left refused. IsNothingDone arguments old left refused × OnlyOpens old left) new status
