-- The plan in a file, and why a file has no plan.
use Rattle.std.specs.Prelude.{◌≡◌, ℕ, ◌≤◌, ◌⊎◌, List, [], ◌∷◌, ◌++◌, Ok, length}
use Rattle.devices.specs.feeds.FeedState.{FeedState}
use Rattle.devices.specs.files.Opening.{Opening, OpensFeed, Unopened}
use Rattle.pit_model.specs.Planned.{planned}
use Rattle.plan_parts.specs.Plan.{PlanParts}
use Rattle.refusals.specs.declared.refusal.Refusal.TheVariants.{OutOfMemory}
use Rattle.command_io.specs.PlanText.{IsNoPlan}
use Rattle.devices.specs.feeds.ReadWhole.{IsReadWhole}
use Rattle.command_io.specs.Refused.{IsUnread}
use Rattle.command_io.specs.declared.refused.Refused.{Refused}
use Rattle.command_io.specs.declared.refused.Refused.TheVariants.{FeedFailed, Run}
use Rattle.command_io.specs.declared.refused.source.Source.TheVariants.{Plan}
use Rattle.plan_parts.specs.declared.ranges.TheConstants.{MAX_PLAN_BYTES}

-- of a file, by the state of its feed before and now
module _ (old new : FeedState) where
  -- the file was read to its end, and its text states this plan
  pub record HasPlan (plan : PlanParts) : Type 0 where
    pub text : List ℕ
    pub read : IsReadWhole old new text
    pub short : length text ≤ MAX_PLAN_BYTES
    pub states : planned text ≡ Ok plan

  -- the file was not read; or it was read to its end, and its text states no plan
  abbrev pub IsNoPlanFile : Refused → Type 0
  IsNoPlanFile refused =
      IsUnread Plan MAX_PLAN_BYTES old new refused
      ⊎ ((text : List ℕ) × IsReadWhole old new text × IsNoPlan text refused)

-- of what was opened before and is now, and of the states of feeds
module _ {F : Type 0} (state : F → FeedState) (path : List ℕ) (old new : List Opening) where
  -- only the file at this path was opened; it was read to its end, and its text states this plan
  abbrev pub IsPlanAt : PlanParts → Type 0
  IsPlanAt plan = (first : FeedState) × OpensFeed path old new first × ((now : F) × HasPlan first (state now) plan)

  -- the file at this path could not be opened; or only this file was opened, and it has no plan
  abbrev pub IsNoPlanAt : Refused → Type 0
  IsNoPlanAt refused =
      ((new ≡ old ++ Unopened path ∷ []) × (refused ≡ FeedFailed Plan))
      ⊎ ((first : FeedState) × OpensFeed path old new first × ((now : F) × IsNoPlanFile first (state now) refused))

  -- the same; or the file states a plan, and memory was refused before the plan was used
  abbrev pub IsNotBegun : Refused → Type 0
  IsNotBegun refused = IsNoPlanAt refused ⊎ ((plan : PlanParts) × IsPlanAt plan × (refused ≡ Run OutOfMemory))
