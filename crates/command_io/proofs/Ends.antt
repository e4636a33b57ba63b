-- Why there is no plan, in other words, and the exit status for it.
use Rattle.std.proofs.Common.{◌≡◌, ◌≤◌, ℕ, List, length, arith, inl, inr, refl, sym, subst, Err, Ok}
use Rattle.devices.specs.feeds.FeedState.{FeedState}
use Rattle.pit_model.specs.Planned.{planned}
use Rattle.pit_model.specs.declared.plan_fault.PlanFault.{PlanFault}
use Rattle.plan_parts.specs.declared.plan.Plan.{Plan}
use Rattle.pit_units.specs.OrMemory.{Gives}
use Rattle.pit_units.specs.declared.or_memory.OrMemory.{OrMemory}
use Rattle.pit_units.specs.declared.or_memory.OrMemory.TheVariants as or_memory
use Rattle.refusals.specs.declared.refusal.Refusal.TheVariants.{OutOfMemory}
use Rattle.command_io.specs.FaultLine.{Ends, EndsRefused, EndsWith}
use Rattle.command_io.specs.PlanFile.{HasPlan, IsNoPlanFile}
use Rattle.command_io.specs.PlanText.{IsNoPlan}
use Rattle.devices.specs.feeds.ReadWhole.{IsReadWhole}
use Rattle.command_io.specs.Refused.{IsUnread, plan_refused, refused_text}
use Rattle.command_io.specs.declared.refused.Refused.{Refused}
use Rattle.command_io.specs.declared.refused.Refused.TheVariants.{NotUtf8, FeedFailed, TooLong, Text, Run}
use Rattle.command_io.specs.declared.refused.Refused.TheVariants as refused
use Rattle.command_io.specs.declared.refused.source.Source.TheVariants as source

-- a text of at most 1 MiB that states no plan
pub invalid_plan : (text : List ℕ) (error : OrMemory PlanFault) (why : Refused) → length text ≤ 1048576
    → why ≡ plan_refused error → Gives {A = Plan} (λ plan. plan) (Err error) (planned text) → IsNoPlan text why
invalid_plan text (or_memory.Fault fault) why short e stated = subst (IsNoPlan text) (sym e) (short, stated)
invalid_plan text or_memory.OutOfMemory why short e stated = subst (IsNoPlan text) (sym e) refl

module _ (old new : FeedState) where
  pub plan_unread : (why : Refused) → IsUnread source.Plan 1048576 old new why → IsNoPlanFile old new why
  plan_unread why unread = inl unread

  pub plan_read : (why : Refused) (text : List ℕ) → IsReadWhole old new text → IsNoPlan text why → IsNoPlanFile old new why
  plan_read why text is refused = inr (text, is, refused)

  pub plan_stated : (plan : Plan) (text : List ℕ) → IsReadWhole old new text → length text ≤ 1048576 → planned text ≡ Ok plan
      → HasPlan old new plan
  plan_stated plan text is short states = record { text = text; read = is; short = short; states = states }

-- a text that states no plan ends the program with status 1 and a line, or with status 4 and no line if memory is refused
one_or_memory : (words old new : List ℕ) (status : ℕ) → EndsWith 1 words old new status → EndsRefused old new status
one_or_memory words old new status (inl reported) =
    (λ none. omega (arith, reported.0, none), λ other. (words, reported.1), λ four. absurd (omega (arith, reported.0, four)))
one_or_memory words old new status (inr refused) =
    (λ none. omega (arith, refused.0, none), λ other. absurd (other refused.0), λ four. refused.1)

pub no_plan_ends : (text old new : List ℕ) (why : Refused) (status : ℕ) → IsNoPlan text why → Ends why old new status
    → EndsRefused old new status
no_plan_ends text old new NotUtf8 status none ends = absurd none
no_plan_ends text old new (FeedFailed which) status none ends = absurd none
no_plan_ends text old new (TooLong which) status none ends = one_or_memory (refused_text (TooLong which)) old new status ends.0
no_plan_ends text old new (refused.Plan fault) status none ends = one_or_memory (refused_text (refused.Plan fault)) old new status ends.0
no_plan_ends text old new (Text fault) status none ends = absurd none
no_plan_ends text old new (Run why) status none ends =
    subst (λ w. Ends (Run w) old new status → EndsRefused old new status) (sym none) (λ e. memory_ends old new status e) ends where
      memory_ends : (old new : List ℕ) (status : ℕ) → Ends (Run OutOfMemory) old new status → EndsRefused old new status
      memory_ends old new status (inl reported, unsaid) =
          (λ zero. omega (arith, reported.0, zero), λ other. absurd (other reported.0), λ four. unsaid refl)
      memory_ends old new status (inr reported, unsaid) =
          (λ zero. omega (arith, reported.0, zero), λ other. absurd (other reported.0), λ four. unsaid refl)
