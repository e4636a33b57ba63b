-- The effects of a task.
use Rattle.std.specs.Prelude.{◌≡◌, ℕ, ◌+◌, List, Option, length, map, string_bytes}
use Rattle.devices.specs.feeds.FeedState.{FeedState}
use Rattle.devices.specs.sinks.FileSinkView.{FileSinkView}
use Rattle.pit_compile.specs.declared.sinks.Sinks.{Sinks}
use Rattle.plan_parts.specs.Plan.{PlanParts}
use Rattle.plan_parts.specs.declared.formulas.formula.Formula.{Formula}
use Rattle.compile_command.specs.BaseFiles.{IsNoCompileAt, ReportsRowsAt}
use Rattle.compile_command.specs.Printed.{IsNoPipe, IsPrinted}
use Rattle.command_io.specs.World.{World}
use Rattle.command_io.specs.declared.refused.Refused.{Refused}
use Rattle.run_threads.specs.Starts.{AreSpent}
use Rattle.compile_command.specs.declared.task.Task.{Task}
use Rattle.compile_command.specs.declared.task.Task.TheVariants.{Pipe, Files}

-- the plan of the task's model
abbrev pub plan_in : Task → PlanParts
plan_in (Pipe model) = model.plan
plan_in (Files plan settings base zones) = plan

-- no file was opened, and no slot was made
abbrev pub TouchesNoFile : (old new : World) → Type 0
TouchesNoFile old new = (new.opened ≡ old.opened) × (new.made ≡ old.made)

-- for a task with destinations that have these formulas, by the sinks that it made
module _ (formulas : List Formula) where
  -- the task is complete, and its output was appended: the files of the model, without opening or creating a file, and a thread ran
  -- for each valuer and zone file; or the line with the rows of the files
  abbrev pub IsTaskDone : Task → Option (Sinks FileSinkView) → (old new : World) → Type 0
  IsTaskDone (Pipe model) sinks old new =
      IsPrinted model.plan model.pieces.zones old.text new.text × TouchesNoFile old new × AreSpent (4 + length model.pieces.zones) new.starts
  IsTaskDone (Files plan settings base zones) sinks old new =
      ReportsRowsAt (string_bytes base)
      (record { plan = plan; formulas = formulas; zones = map string_bytes zones.items; settings = settings }) sinks old new

  -- by the states of feeds of files
  module _ {F : Type 0} (state : F → FeedState) where
    -- why the task failed with these destinations: as the pipe form fails, or as a compile to the files of BASE fails
    abbrev pub IsNoTask : Task → Option (Sinks FileSinkView) → (old new : World) → Refused → Type 0
    IsNoTask (Pipe model) sinks old new refused =
        IsNoPipe model.plan formulas model.pieces.zones old.starts new.starts refused × TouchesNoFile old new
    IsNoTask (Files plan settings base zones) sinks old new refused =
        IsNoCompileAt (string_bytes base)
        (record { plan = plan; formulas = formulas; zones = map string_bytes zones.items; settings = settings }) state sinks old new refused
