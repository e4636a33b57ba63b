-- The ranges and names that the parts' types guarantee for every instance and every CPIT.
use Rattle.std.specs.Prelude.{◌≡◌, true, All}
use Rattle.pit_units.specs.DecimalRange.{IsInDecimalRange}
use Rattle.plan_parts.specs.Name.{is_name}
use Rattle.plan_parts.specs.declared.limit.Bound.{Bound}
use Rattle.plan_parts.specs.declared.limit.Bound.TheVariants.{AtMost, AtLeast, Between}
use Rattle.mine_instance.specs.cpit.Cpit.{CpitParts}
use Rattle.mine_instance.specs.Instance.{Instance}

-- a bound whose numbers are in the range of decimals
abbrev pub HasDecimals : Bound → Type 0
HasDecimals (AtMost v) = IsInDecimalRange v
HasDecimals (AtLeast v) = IsInDecimalRange v
HasDecimals (Between v w) = IsInDecimalRange v × IsInDecimalRange w

-- an instance with a NAME, and numbers in the range of decimals
pub record IsWellFormed (i : Instance) : Type 0 where
  pub name : is_name i.name ≡ true
  pub values : All (λ values. All IsInDecimalRange values) i.values
  pub coefs : All (λ c. IsInDecimalRange c.v) i.coefs
  pub limits : All (λ l. HasDecimals l.bound) i.limits

-- a CPIT with a NAME, and numbers in the range of decimals
pub record IsWellFormedCpit (c : CpitParts) : Type 0 where
  pub name : is_name c.name ≡ true
  pub values : All IsInDecimalRange c.values
  pub coefs : All (λ e. IsInDecimalRange e.v) c.coefs
  pub limits : All (λ l. HasDecimals l.bound) c.limits
