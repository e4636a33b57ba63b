-- The model in an input, and why an input has no model.
use Rattle.std.specs.Prelude.{◌≡◌, ℕ, ◌<◌, ◌≤◌, ◌⊎◌, List, length, Ok}
use Rattle.refusals.specs.declared.refusal.Refusal.TheVariants.{Settings, OutOfMemory}
use Rattle.refusals.specs.declared.settings_fault.SettingsFault.TheVariants.{Files}
use Rattle.pit_model.specs.Planned.{planned}
use Rattle.plan_parts.specs.declared.plan.Plan.{Plan}
use Rattle.command_io.specs.Pieces.{PiecesView, plan_piece, zone_pieces}
use Rattle.command_io.specs.PlanText.{IsNoPlan}
use Rattle.devices.specs.feeds.FeedState.{FeedState}
use Rattle.devices.specs.feeds.ReadWhole.{IsReadWhole}
use Rattle.command_io.specs.Refused.{IsUnread}
use Rattle.command_io.specs.declared.refused.Refused.{Refused}
use Rattle.command_io.specs.declared.refused.Refused.TheVariants.{Run}
use Rattle.command_io.specs.declared.refused.source.Source.TheVariants.{Input}
use Rattle.plan_parts.specs.declared.ranges.TheConstants.{MAX_FILE_BYTES, MAX_PLAN_BYTES}

-- an input of at most 256 MiB is cut into these parts, and the first part, of at most 1 MiB, states the plan
abbrev pub IsModel : List ℕ → PiecesView → Plan → Type 0
IsModel input pieces plan =
    (length input ≤ MAX_FILE_BYTES)
    × ((pieces.plan ≡ plan_piece input) × (pieces.zones ≡ zone_pieces input))
    × ((length pieces.plan ≤ MAX_PLAN_BYTES) × (planned pieces.plan ≡ Ok plan))

-- an input has more zone files than this plan has zones; or memory was refused
abbrev pub HasTooManyFiles : List ℕ → Plan → Refused → Type 0
HasTooManyFiles input plan refused =
    ((refused ≡ Run (Settings Files)) × (length plan.cones < length (zone_pieces input))) ⊎ (refused ≡ Run OutOfMemory)

-- the first part of an input states no plan; or it states a plan with fewer zones than there are other parts
abbrev pub HasNoModel : List ℕ → Refused → Type 0
HasNoModel input refused =
    IsNoPlan (plan_piece input) refused ⊎ ((plan : Plan) × (planned (plan_piece input) ≡ Ok plan) × HasTooManyFiles input plan refused)

-- of an input, by the state of its feed before and now
module _ (old new : FeedState) where
  -- it was read to its end, and has this model
  pub record IsRead (plan : Plan) (pieces : PiecesView) : Type 0 where
    pub input : List ℕ
    pub read : IsReadWhole old new input
    pub model : IsModel input pieces plan

  -- it was not read; or it was read to its end, and its bytes, at most 256 MiB, have no model
  abbrev pub IsNoModel : Refused → Type 0
  IsNoModel refused =
      IsUnread Input MAX_FILE_BYTES old new refused
      ⊎ ((input : List ℕ) × IsReadWhole old new input × (length input ≤ MAX_FILE_BYTES) × HasNoModel input refused)
