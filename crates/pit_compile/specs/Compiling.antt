-- What `compile` returns.
use Rattle.std.specs.Prelude.{◌≡◌, ◌↔◌, ◌+◌, ◌≤◌, ℕ, List, length, Option, Result, Err, IfOk, IfErr}
use Rattle.devices.specs.feeds.FeedState.{FeedState, all_remaining}
use Rattle.mine_instance.specs.Valid.{IsValid}
use Rattle.plan_parts.specs.Plan.{PlanParts}
use Rattle.plan_parts.specs.declared.formulas.formula.Formula.{Formula}
use Rattle.plan_parts.specs.declared.settings.Settings.{Settings as Chosen}
use Rattle.pit_compile.specs.Settings.{IsSettingsFault}
use Rattle.pit_compile.specs.Verdict.{IsAccepted}
use Rattle.pit_compile.specs.declared.compiling.Compiled.{Compiled}
use Rattle.refusals.specs.declared.refusal.Refusal.{Refusal}
use Rattle.refusals.specs.declared.refusal.Refusal.TheVariants.{Settings, NoThread, FeedFailed, TooLong, Row, Same, SinkFailed, OutOfMemory}
use Rattle.refusals.specs.declared.settings_fault.SettingsFault.{SettingsFault}
use Rattle.run_threads.specs.Refusing.{HasFailed}
use Rattle.pit_compile.specs.ZoneFiles.{AreGiven, instance_from, HasPassed, IsVerdict, IsFeedFault}

-- the rules accept the zone files, their rows passed the lane, and this is their instance
pub record IsCompiled (plan : PlanParts) (remainders : List (Option (List ℕ))) (valuers capacity : ℕ) (c : Compiled) : Type 0 where
  pub texts : List (List ℕ)
  pub given : AreGiven remainders texts
  pub accepted : IsAccepted plan texts
  pub passed : HasPassed plan texts valuers capacity c.gathered
  pub instance_is : c.instance ≡ instance_from plan texts

-- what holds after each error, for the bytes that the feeds had left and the feeds that failed
abbrev pub IsNotCompiled : PlanParts → List (Option (List ℕ)) → (ℕ → Type 0) → Refusal → Type 0
IsNotCompiled plan remainders Failed (Settings kind) = Unit {0}
IsNotCompiled plan remainders Failed NoThread = Unit {0}
IsNotCompiled plan remainders Failed (FeedFailed file) = IsFeedFault plan remainders Failed file
IsNotCompiled plan remainders Failed (TooLong file) = IsVerdict plan remainders (TooLong file)
IsNotCompiled plan remainders Failed (Row file fault) = IsVerdict plan remainders (Row file fault)
IsNotCompiled plan remainders Failed (Same first again) = IsVerdict plan remainders (Same first again)
IsNotCompiled plan remainders Failed (SinkFailed which) = ⊥
IsNotCompiled plan remainders Failed OutOfMemory = Unit {0}

-- what `compile` returns, for a plan, the formulas of its destinations, its settings, its feeds and the number of threads that it may
-- start. `state` is the ghost member of the feeds
pub record Compiles {F : Type 0} (state : F → FeedState) (plan : PlanParts) (formulas : List Formula) (chosen : Chosen)
    (feeds : List F) (starts : ℕ) (answer : Result Compiled Refusal) : Type 0 where
  pub settings : (kind : SettingsFault) → (answer ≡ Err (Settings kind)) ↔ IsSettingsFault plan (length feeds) formulas chosen kind
  pub done : IfOk answer (IsCompiled plan (all_remaining state feeds) chosen.valuers chosen.capacity)
  pub valid : IfOk answer (λ compiled. IsValid compiled.instance)
  pub refused : IfErr answer (IsNotCompiled plan (all_remaining state feeds) (HasFailed state feeds))
  pub budget : IfOk answer (λ _. chosen.valuers + length feeds ≤ starts)
