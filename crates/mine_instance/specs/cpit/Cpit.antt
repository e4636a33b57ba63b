-- The parts of a CPIT.
use Rattle.std.specs.Prelude.{ℕ, ℤ, List}
use Rattle.plan_parts.specs.declared.limit.Limit.{Limit}
use Rattle.mine_instance.specs.declared.coefs.coef.Coef.{Coef}

pub record CpitParts : Type 0 where
  pub name : List ℕ
  -- the discount rate, in millionths
  pub rate : ℤ
  pub periods : ℕ
  pub resources : ℕ
  -- one for each block, in units of 100 cents
  pub values : List ℤ
  -- all at destination 0, the only one
  pub coefs : List Coef
  pub limits : List Limit
