-- The properties of every CPIT.
use Rattle.std.specs.Prelude.{ℕ, ◌≤◌, ℤ, List, length}
use Rattle.plan_parts.specs.declared.limit.Limit.{Limit}
use Rattle.mine_instance.specs.Valid.{IsHorizon, AreCoefs, AreLimits}
use Rattle.mine_instance.specs.declared.coefs.coef.Coef.{Coef}
use Rattle.plan_parts.specs.declared.ranges.TheConstants.{MAX_BLOCKS}
use Rattle.mine_instance.specs.cpit.Cpit.{CpitParts}

-- a CPIT with these parts
abbrev pub cpit_of : List ℕ → ℤ → ℕ → ℕ → List ℤ → List Coef → List Limit → CpitParts
cpit_of name rate periods resources values coefs limits = record {
  name = name;
  rate = rate;
  periods = periods;
  resources = resources;
  values = values;
  coefs = coefs;
  limits = limits;
}

-- its lengths, ranges and orders
pub record IsCpit (p : CpitParts) : Type 0 where
  pub few : length p.values ≤ MAX_BLOCKS
  pub horizon : IsHorizon p.periods p.resources p.rate
  -- for one destination, so they rise strictly by block and resource
  pub coefs : AreCoefs (length p.values) 1 p.resources p.coefs
  pub limits : AreLimits p.resources p.periods p.limits
