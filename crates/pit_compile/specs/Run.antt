-- What a run does: what it returns, and the states of its sinks before and after. `remainders` are the bytes that its feeds had left, and
-- `Failed file` states that the feed of a file refused a call.
use Rattle.std.specs.Prelude.{◌≡◌, ◌↔◌, ◌+◌, ◌≤◌, ℕ, ◌⊎◌, List, length, Option, Result, Err, IfOk, IfErr}
use Rattle.lane.specs.Whole.{GatheredView}
use Rattle.plan_parts.specs.Plan.{PlanParts}
use Rattle.plan_parts.specs.declared.formulas.formula.Formula.{Formula}
use Rattle.plan_parts.specs.declared.settings.Settings.{Settings as Chosen}
use Rattle.pit_compile.specs.ZoneFiles.{AreGiven, HasPassed, IsFeedFault, IsVerdict, instance_from}
use Rattle.devices.specs.sinks.SinkState.{SinkState}
use Rattle.minelib_lines.specs.declared.text_name.TextName.{TextName}
use Rattle.pit_compile.specs.Settings.{IsSettingsFault}
use Rattle.pit_compile.specs.Sinks.{AreWritten, AreCutOffAt}
use Rattle.pit_compile.specs.Verdict.{IsAccepted}
use Rattle.refusals.specs.declared.refusal.Refusal.{Refusal}
use Rattle.refusals.specs.declared.refusal.Refusal.TheVariants.{Settings, NoThread, FeedFailed, SinkFailed, OutOfMemory}
use Rattle.refusals.specs.declared.settings_fault.SettingsFault.{SettingsFault}

-- the rules accept the zone files, every row of every file passed the lane, and each sink holds its file of their instance
pub record IsDone (plan : PlanParts) (remainders : List (Option (List ℕ))) (valuers capacity : ℕ)
    (old new : TextName → SinkState) (g : GatheredView) : Type 0 where
  pub texts : List (List ℕ)
  pub given : AreGiven remainders texts
  pub accepted : IsAccepted plan texts
  pub passed : HasPassed plan texts valuers capacity g
  pub written : AreWritten (instance_from plan texts) old new

-- the rules accept the zone files, and writing stopped at this sink, which refused `more` calls
pub record IsStopped (plan : PlanParts) (remainders : List (Option (List ℕ))) (which : TextName)
    (more : ℕ) (old new : TextName → SinkState) : Type 0 where
  pub texts : List (List ℕ)
  pub given : AreGiven remainders texts
  pub accepted : IsAccepted plan texts
  pub cut : AreCutOffAt which more (instance_from plan texts) old new

-- what holds after each error: why the run returned it, and the states of the sinks
abbrev pub IsRefused : PlanParts → List (Option (List ℕ)) → (ℕ → Type 0)
    → (TextName → SinkState) → (TextName → SinkState) → Refusal → Type 0
IsRefused plan remainders Failed old new (Settings kind) = new ≡ old
IsRefused plan remainders Failed old new NoThread = new ≡ old
IsRefused plan remainders Failed old new (FeedFailed file) = IsFeedFault plan remainders Failed file × (new ≡ old)
IsRefused plan remainders Failed old new (SinkFailed which) = IsStopped plan remainders which 1 old new
IsRefused plan remainders Failed old new OutOfMemory =
    (new ≡ old) ⊎ ((which : TextName) × IsStopped plan remainders which 0 old new)
IsRefused plan remainders Failed old new verdict = IsVerdict plan remainders verdict × (new ≡ old)

-- what a run starts with: a plan, the formulas of its destinations, its settings, what its feeds had left, and the number of threads that
-- it may start
pub record RunInputs : Type 0 where
  pub plan : PlanParts
  pub formulas : List Formula
  pub settings : Chosen
  pub remainders : List (Option (List ℕ))
  pub starts : ℕ

-- what a run returns and does to its sinks
pub record Runs (run : RunInputs) (Failed : ℕ → Type 0) (old new : TextName → SinkState) (answer : Result GatheredView Refusal) : Type 0 where
  pub settings : (kind : SettingsFault)
      → (answer ≡ Err (Settings kind)) ↔ IsSettingsFault run.plan (length run.remainders) run.formulas run.settings kind
  pub done : IfOk answer (IsDone run.plan run.remainders run.settings.valuers run.settings.capacity old new)
  pub refused : IfErr answer (IsRefused run.plan run.remainders Failed old new)
  pub budget : IfOk answer (λ _. run.settings.valuers + length run.remainders ≤ run.starts)
