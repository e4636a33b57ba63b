-- Valid instances.
use Rattle.std.specs.Prelude.{◌≡◌, ◌≢◌, ℕ, ◌<◌, ◌≤◌, ℤ, pos, ◌≤ℤ◌, List, [], length, slice_index_or, All, AllPairs, EachIndex, IsTrue, false}
use Rattle.plan_parts.specs.PlanInvariant.{RiseStrictly, is_turned}
use Rattle.plan_parts.specs.declared.limit.Limit.{Limit}
use Rattle.mine_instance.specs.Order.{coef_before}
use Rattle.mine_instance.specs.declared.coefs.coef.Coef.{Coef}
use Rattle.mine_instance.specs.Instance.{Instance}
use Rattle.plan_parts.specs.declared.ranges.TheConstants.{MAX_BLOCKS, MAX_DESTINATIONS, MAX_PERIODS, MAX_RATE, MAX_RESOURCES}

-- the same number of blocks, predecessor lists and value lists, at most 64,000,000
pub record HasLengths (i : Instance) : Type 0 where
  pub few : length i.blocks ≤ MAX_BLOCKS
  pub preds : length i.preds ≡ length i.blocks
  pub values : length i.values ≡ length i.blocks

-- identifiers below n, all distinct, without the block's own identifier
pub record ArePredsOf (own n : ℕ) (ids : List ℕ) : Type 0 where
  pub below : All (λ id. id < n) ids
  pub others : All (λ id. id ≢ own) ids
  pub distinct : AllPairs (λ id other. id ≢ other) ids

-- each of n blocks has such predecessors
abbrev pub ArePreds : ℕ → List (List ℕ) → Type 0
ArePreds n preds = EachIndex preds (λ id. ArePredsOf id n (slice_index_or preds id []))

-- 1 to 100 periods, at most 8 resources, and a rate from 0 to 1
pub record IsHorizon (periods resources : ℕ) (rate : ℤ) : Type 0 where
  pub periods_1_to_100 : (1 ≤ periods) × (periods ≤ MAX_PERIODS)
  pub at_most_8_resources : resources ≤ MAX_RESOURCES
  pub rate_0_to_1 : (pos 0 ≤ℤ rate) × (rate ≤ℤ MAX_RATE)

-- 1 to 8 destinations, and a value for each
pub record HasDestinations (destinations : ℕ) (values : List (List ℤ)) : Type 0 where
  pub from_1_to_8 : (1 ≤ destinations) × (destinations ≤ MAX_DESTINATIONS)
  pub one_each : All (λ vs. length vs ≡ destinations) values

-- coefficients of existing blocks, destinations and resources, in strictly rising order
pub record AreCoefs (n destinations resources : ℕ) (coefs : List Coef) : Type 0 where
  pub in_range : All (λ c. (c.b < n) × (c.d < destinations) × (c.r < resources)) coefs
  pub rising : AllPairs (λ c e. IsTrue (coef_before c e)) coefs

-- limits of existing resources and periods, none with its ends reversed, in strictly rising order
pub record AreLimits (resources periods : ℕ) (limits : List Limit) : Type 0 where
  pub in_range : All (λ l. (l.resource < resources) × (l.period < periods) × (is_turned l.bound ≡ false)) limits
  pub rising : RiseStrictly limits

-- a valid instance: its lengths, ranges and orders
pub record IsValid (i : Instance) : Type 0 where
  pub lengths : HasLengths i
  pub preds : ArePreds (length i.blocks) i.preds
  pub horizon : IsHorizon i.periods i.resources i.rate
  pub destinations : HasDestinations i.destinations i.values
  pub coefs : AreCoefs (length i.blocks) i.destinations i.resources i.coefs
  pub limits : AreLimits i.resources i.periods i.limits
