-- What the threads of a run promise about their results, and what is prepared for them.
use Rattle.std.specs.Prelude.{◌≡◌, ℕ, ◌+◌, ◌<◌, Bool, true, List, [], ◌∷◌, ◌++◌, length, drop, vec_len, ◌≤◌, IsFalse, IsTrue}
use Rattle.devices.specs.feeds.FeedState.{FeedState}
use Rattle.lane.specs.Ends.{PutEndView, TakeEndView}
use Rattle.std.specs.Global.{Vec}
use Rattle.lane.specs.MessageKinds.{is_done}
use Rattle.plan_parts.specs.declared.formulas.formula.Formula.{Formula}
use Rattle.plan_parts.specs.Plan.{PlanParts}
use Rattle.plan_parts.specs.declared.grid.Grid.{Grid}
use Rattle.plan_parts.specs.declared.ranges.TheConstants.{MAX_ZONES}
use Rattle.valuers.specs.Valuing.{items_by}
use Rattle.rows.specs.ItemsView.{IsFullFor, PackedView}
use Rattle.run_threads.specs.Reading.{IsRead, ReadAnswer}

-- a reader that received this feed and this put end ended the put end, and read its file
module _ {F : Type 0} (state : F → FeedState) where
  abbrev pub KeepsRead : Grid → F → PutEndView → PutEndView → ReadAnswer → Type 0
  KeepsRead grid feed given ended answer =
      (ended.lane ≡ given.lane) × (ended.file ≡ given.file) × IsRead state grid given.file feed answer ended.sent

-- a valuer that received this take end took until it was done, and valued what it took. If memory was refused, its list has no capacity left
abbrev pub KeepsValued : List Formula → TakeEndView → TakeEndView → PackedView → Bool → Type 0
KeepsValued formulas given taker list memory =
    (taker ≡ record given { took = given.took ++ drop (length given.took) taker.took })
    × (is_done taker.took ≡ true)
    × (IsFalse memory → list.items ≡ items_by formulas (drop (length given.took) taker.took))
    × (IsTrue memory → IsFullFor (length formulas) list)

-- a put end that sent nothing, of a file with a zone in the plan
pub record IsUnsent (plan : PlanParts) (file : ℕ) (end : PutEndView) : Type 0 where
  pub zone : file < length plan.cones
  pub file_is : end.file ≡ file
  pub unsent : end.sent ≡ []

-- put ends that sent nothing, of the files k, k + 1, .. in order
abbrev pub AreUnsentFrom : ℕ → List PutEndView → Type 0
AreUnsentFrom k [] = Unit {0}
AreUnsentFrom k (p ∷ ps) = (p.file ≡ k) × (p.sent ≡ []) × AreUnsentFrom (k + 1) ps

-- put ends that sent nothing, of all files of a plan, in order
pub record AreUnsent (plan : PlanParts) (ends : Vec PutEndView) : Type 0 where
  pub files : length plan.cones ≡ vec_len ends
  pub few : vec_len ends ≤ MAX_ZONES
  pub unsent : AreUnsentFrom 0 ends.items

-- the results belong to the first things, and `rest` are the remaining things
abbrev pub IsPartly : {A B : Type 0} → (A → B → Type 0) → List A → List B → List A → Type 0
IsPartly R all [] rest = all ≡ rest
IsPartly R [] (y ∷ ys) rest = ⊥
IsPartly R (x ∷ xs) (y ∷ ys) rest = R x y × IsPartly R xs ys rest
