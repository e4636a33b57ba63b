-- What a run makes of its zone files: their texts, the messages in the lane, and the instance or the error.
use Rattle.std.specs.Prelude.{◌≡◌, ℕ, List, length, take, Option, None, IfSome}
use Rattle.std.specs.List.{AllZip}
use Rattle.lane.specs.Whole.{GatheredView, IsWhole}
use Rattle.mine_instance.specs.OfModel.{instance}
use Rattle.mine_instance.specs.Instance.{Instance}
use Rattle.plan_parts.specs.Plan.{PlanParts}
use Rattle.pit_compile.specs.Rows.{model_blocks, model_sends, fault_in}
use Rattle.pit_compile.specs.Verdict.{IsRefusedBy}
use Rattle.refusals.specs.declared.refusal.Refusal.{Refusal}

-- these are the texts of the zone files: each is the bytes that its feed had left, if the feed reports them. A file of the system reports
-- none, so its text is any text
abbrev pub AreGiven : List (Option (List ℕ)) → List (List ℕ) → Type 0
AreGiven remainders texts = AllZip (λ remaining text. IfSome remaining (λ bytes. text ≡ bytes)) remainders texts

-- the instance of a plan and these zone files
abbrev pub instance_from : PlanParts → List (List ℕ) → Instance
instance_from plan texts = instance plan (model_blocks plan texts)

-- what passed the lane of this capacity: each zone file sent its rows and its end mark, and this number of valuers took each exactly once
pub record HasPassed (plan : PlanParts) (texts : List (List ℕ)) (valuers capacity : ℕ) (g : GatheredView) : Type 0 where
  pub sent : g.sent ≡ model_sends plan texts
  pub takers : length g.took ≡ valuers
  pub capacity_is : g.capacity ≡ capacity
  pub whole : IsWhole g

-- the verdict on the zone files is this error
pub record IsVerdict (plan : PlanParts) (remainders : List (Option (List ℕ))) (refusal : Refusal) : Type 0 where
  pub texts : List (List ℕ)
  pub given : AreGiven remainders texts
  pub refused : IsRefusedBy plan texts refusal

-- the feed of this file failed, and no file before it has a fault
pub record IsFeedFault (plan : PlanParts) (remainders : List (Option (List ℕ))) (Failed : ℕ → Type 0) (file : ℕ) : Type 0 where
  pub texts : List (List ℕ)
  pub given : AreGiven remainders texts
  pub none_before : fault_in (take file texts) plan.grid 0 ≡ None
  pub failed : Failed file
