-- What the pipe form prints for a model: the files of its instance, each after its section line.
use Rattle.std.specs.Prelude.{◌≡◌, ◌↔◌, ℕ, ◌+◌, ◌⊎◌, List, ◌++◌, length}
use Rattle.devices.specs.feeds.FeedState.{FeedState}
use Rattle.command_io.specs.Pieces.{PiecesView}
use Rattle.command_io.specs.Sections.{printed}
use Rattle.command_io.specs.World.{World}
use Rattle.command_io.specs.declared.refused.Refused.{Refused}
use Rattle.command_io.specs.declared.refused.Refused.TheVariants.{Run}
use Rattle.pit_compile.specs.ZoneFiles.{instance_from}
use Rattle.pit_compile.specs.Settings.{IsSettingsFault}
use Rattle.pit_compile.specs.Verdict.{IsAccepted, IsRefusedBy}
use Rattle.refusals.specs.declared.refusal.Refusal.{Refusal}
use Rattle.refusals.specs.declared.refusal.Refusal.TheVariants.{OutOfMemory}
use Rattle.refusals.specs.declared.refusal.Refusal.TheVariants as refusal
use Rattle.refusals.specs.declared.settings_fault.SettingsFault.{SettingsFault}
use Rattle.plan_parts.specs.declared.settings.Settings as settings
use Rattle.plan_parts.specs.Plan.{PlanParts}
use Rattle.plan_parts.specs.PlanFormulas.{formulas_of_plan}
use Rattle.plan_parts.specs.declared.plan.Plan.{Plan}
use Rattle.plan_parts.specs.declared.formulas.formula.Formula.{Formula}
use Rattle.pit_compile.specs.Starts.{AreStartsOf}
use Rattle.run_threads.specs.Starts.{AreSpent, StartsView}
use Rattle.compile_command.specs.Model.{IsNoModel, IsRead}
use Rattle.compile_command.specs.RunRefused.{RunRefused}

-- the verdict accepts the zone files, and the print of their instance is appended
pub record IsPrinted (plan : PlanParts) (zones : List (List ℕ)) (old new : List ℕ) : Type 0 where
  pub accepted : IsAccepted plan zones
  pub appended : new ≡ old ++ printed (instance_from plan zones)

-- the settings of the pipe form: four valuers, and a lane of 64 places
abbrev pub pipe_settings : settings.Settings
pipe_settings = record { valuers = 4; capacity = 64 }

-- why the pipe form prints nothing: its settings do not fit the plan; or the verdict; or a thread or memory was refused. It has no
-- device
abbrev pub PipeRefused : PlanParts → List Formula → List (List ℕ) → Refusal → Type 0
PipeRefused plan formulas zones refusal =
    RunRefused (IsSettingsFault plan (length zones) formulas pipe_settings) (IsRefusedBy plan zones) ⊥ refusal

-- the same as an error of the program, with the starts of threads before and after; the settings are the reason exactly if they do not
-- fit
abbrev pub IsNoPipe : PlanParts → List Formula → List (List ℕ) → (old new : StartsView) → Refused → Type 0
IsNoPipe plan formulas zones old new refused =
    (why : Refusal) × (refused ≡ Run why)
    × ((kind : SettingsFault) → (why ≡ refusal.Settings kind) ↔ IsSettingsFault plan (length zones) formulas pipe_settings kind)
    × PipeRefused plan formulas zones why × AreStartsOf (4 + length zones) old new why

-- of an input, by the state of its feed before and now
module _ (input_old input_new : FeedState) where
  -- it was read to its end, and the print of its model was appended; a thread ran for each valuer and zone file
  abbrev pub PrintsInput : (old new : World) → Type 0
  PrintsInput old new =
      (plan : Plan) × (pieces : PiecesView) × IsRead input_old input_new plan pieces
      × IsPrinted plan pieces.zones old.text new.text × AreSpent (4 + length pieces.zones) new.starts

  -- it was read to its end, and this is why nothing is printed for it
  abbrev pub IsNotPrinted : (old new : World) → Refused → Type 0
  IsNotPrinted old new refused =
      (plan : Plan) × (pieces : PiecesView) × IsRead input_old input_new plan pieces
      × IsNoPipe plan (formulas_of_plan plan) pieces.zones old.starts new.starts refused

  -- why nothing is done with it: it has no model; or it has one, and memory was refused
  abbrev pub IsNoInput : Refused → Type 0
  IsNoInput refused =
      IsNoModel input_old input_new refused
      ⊎ ((plan : Plan) × (pieces : PiecesView) × IsRead input_old input_new plan pieces × (refused ≡ Run OutOfMemory))
