-- What `pitc_thin` does for its arguments.
use Rattle.std.specs.Prelude.{◌≡◌, ℕ, List, [], ◌∷◌, ◌++◌, Option, Some, None, map, string_bytes}
use Rattle.command_io.specs.Ending.{IsDoneOrReported}
use Rattle.command_io.specs.PlanFile.{IsNotBegun, IsPlanAt}
use Rattle.command_io.specs.RunState.{inputs_of_plan, run_state}
use Rattle.command_io.specs.World.{OnlyPrints, CommandEnds, OnlyOpens, World}
use Rattle.command_io.specs.declared.refused.Refused.{Refused}
use Rattle.command_io.specs.declared.refused.Refused.TheVariants.{Run}
use Rattle.command_lines.specs.Asked.{DoesAsked, ShowsFault}
use Rattle.command_lines.specs.ThinLine.{StatesRun, thin_program}
use Rattle.command_lines.specs.declared.job.RunArguments.{RunArguments}
use Rattle.devices.specs.feeds.FeedState.{FeedState}
use Rattle.devices.specs.files.Opening.{Opening}
use Rattle.devices.specs.sinks.FileSinkView.{FileSinkView, file_sink_state, unbegun}
use Rattle.devices.specs.sinks.SinkState.{SinkState}
use Rattle.plan_parts.specs.Plan.{PlanParts}
use Rattle.refusals.specs.declared.refusal.Refusal.TheVariants.{OutOfMemory}
use Rattle.thin_command.specs.Thin.{IsNotThinned, ReportsThinned}

-- by the states of feeds of files, the arguments, and the sink before and after
module _ {F : Type 0} (state : F → FeedState) (run : RunArguments) (sink_old sink_new : SinkState) where
  -- the plan in the file of the arguments was opened first, and the reduced lists of its instance were written into the sink
  pub record ThinsFrom (old new : World) : Type 0 where
    pub plan : PlanParts
    pub between : List Opening
    pub read : IsPlanAt state (string_bytes run.plan) old.opened between plan
    pub reported : ReportsThinned (inputs_of_plan plan (map string_bytes run.zones.items) run.settings) (run_state between old.starts sink_old)
        (run_state new.opened new.starts sink_new) old.text new.text

  -- why they were not
  pub record IsNotThinnedFrom (old new : World) (refused : Refused) : Type 0 where
    pub plan : PlanParts
    pub between : List Opening
    pub read : IsPlanAt state (string_bytes run.plan) old.opened between plan
    pub why : IsNotThinned (inputs_of_plan plan (map string_bytes run.zones.items) run.settings) (run_state between old.starts sink_old)
        (run_state new.opened new.starts sink_new) state refused

module _ {F : Type 0} (state : F → FeedState) where
  -- exactly one slot was made, for FILE, and this is how the command ended with the sink of this slot
  abbrev pub Thins : RunArguments → Option FileSinkView → (old new : World) → (status : ℕ) → Type 0
  Thins run None old new status = ⊥
  Thins run (Some sink) old new status =
      (new.made ≡ old.made ++ string_bytes run.out ∷ [])
      × CommandEnds (ThinsFrom state run (file_sink_state (unbegun old.reports (string_bytes run.out))) (file_sink_state sink))
      (IsNotThinnedFrom state run (file_sink_state (unbegun old.reports (string_bytes run.out))) (file_sink_state sink)) old new status

  -- what was done for arguments, by the sink that was made
  abbrev pub DoesArguments : List (List ℕ) → Option FileSinkView → (old new : World) → (status : ℕ) → Type 0
  DoesArguments arguments sink old new status =
      DoesAsked thin_program (StatesRun arguments) (λ run. Thins run sink old new status)
      (λ fault. ShowsFault fault old.text new.text old.lines new.lines status × OnlyPrints old new) arguments

  -- why nothing was done for them: the plan file has no plan, or memory was refused
  abbrev pub IsNothingDone : List (List ℕ) → (old new : World) → Refused → Type 0
  IsNothingDone arguments old new refused =
      DoesAsked thin_program (StatesRun arguments) (λ run. IsNotBegun state (string_bytes run.plan) old.opened new.opened refused)
      (λ fault. (refused ≡ Run OutOfMemory) × (new.opened ≡ old.opened) × (new.made ≡ old.made)) arguments

  -- what was done for arguments, or why nothing was done, which was reported
  abbrev pub WorksFor : List (List ℕ) → (old new : World) → (status : ℕ) → Type 0
  WorksFor arguments old new status =
      IsDoneOrReported (λ status. (sink : Option FileSinkView) × DoesArguments arguments sink old new status)
      (λ left refused. IsNothingDone arguments old left refused × OnlyOpens old left) new status
