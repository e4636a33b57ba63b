-- Why an input has no model, in other words.
use Rattle.std.proofs.Common.{◌≡◌, ◌≤◌, ℕ, List, length, inl, inr, Ok, subst}
use Rattle.devices.specs.feeds.FeedState.{FeedState}
use Rattle.pit_model.specs.Planned.{planned}
use Rattle.plan_parts.specs.declared.plan.Plan.{Plan}
use Rattle.compile_command.specs.Model.{HasTooManyFiles, IsNoModel}
use Rattle.command_io.specs.Pieces.{plan_piece}
use Rattle.command_io.specs.PlanText.{IsNoPlan}
use Rattle.devices.specs.feeds.ReadWhole.{IsReadWhole}
use Rattle.command_io.specs.Refused.{IsUnread}
use Rattle.command_io.specs.declared.refused.Refused.{Refused}
use Rattle.command_io.specs.declared.refused.source.Source.TheVariants.{Input}

module _ (old new : FeedState) where
  pub unread : (why : Refused) → IsUnread Input 268435456 old new why → IsNoModel old new why
  unread why h = inl h

module _ (old new : FeedState) (input text : List ℕ) (own : IsReadWhole old new input) (small : length input ≤ 268435456)
    (first : text ≡ plan_piece input) where
  pub planless : (why : Refused) → IsNoPlan text why → IsNoModel old new why
  planless why h = inr (input, own, small, inl (subst (λ plan. IsNoPlan plan why) first h))

  pub uncut : (plan : Plan) (why : Refused) → planned text ≡ Ok plan → HasTooManyFiles input plan why → IsNoModel old new why
  uncut plan why stated h = inr (input, own, small, inr (plan, subst (λ plan_text. planned plan_text ≡ Ok plan) first stated, h))
