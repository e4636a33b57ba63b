-- The results of the threads of a run.
use Rattle.std.specs.Prelude.{◌≡◌, ℕ, List, length, map, IsFalse, IsTrue}
use Rattle.devices.specs.feeds.FeedState.{FeedState}
use Rattle.lane.specs.Whole.{IsWhole}
use Rattle.plan_parts.specs.PlanFormulas.{formulas_of_plan}
use Rattle.plan_parts.specs.Plan.{PlanParts}
use Rattle.valuers.specs.Valuing.{items_by}
use Rattle.rows.specs.ItemsView.{items_in}
use Rattle.run_threads.specs.Full.{IsOneFull}
use Rattle.run_threads.specs.Reading.{AreRead}
use Rattle.run_threads.specs.declared.handing_over.HandedOver.{HandedOver}

-- the results `handed` of readers of these feeds and of this number of valuers, through a lane whose capacity is `most`. `used` are the
-- feeds that the readers received. `state` is the ghost member of a feed
pub record IsHandedOver {F : Type 0} (state : F → FeedState) (plan : PlanParts) (feeds : List F) (valuers most : ℕ) (handed : HandedOver)
    (used : List F) : Type 0 where
  pub whole : IsWhole handed.gathered
  pub read : AreRead state plan.grid 0 feeds handed.answers.items handed.gathered.sent
  pub given : used ≡ feeds
  pub valued : IsFalse handed.memory → items_in handed.items.items ≡ map (items_by (formulas_of_plan plan)) handed.gathered.took
  pub full : IsTrue handed.memory → IsOneFull (length (formulas_of_plan plan)) handed.items.items
  pub takers : length handed.gathered.took ≡ valuers
  pub capacity : handed.gathered.capacity ≡ most
