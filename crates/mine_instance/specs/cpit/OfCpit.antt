-- The CPIT of an instance: each block goes to the first destination with its largest value.
use Rattle.std.specs.Prelude.{ℕ, ◌==◌, Bool, List, [], ℤ, map, filter, slice_index_or}
use Rattle.mine_instance.specs.Largest.{first_largest, largest}
use Rattle.mine_instance.specs.declared.coefs.coef.Coef.{Coef}
use Rattle.mine_instance.specs.Instance.{Instance}
use Rattle.mine_instance.specs.cpit.Cpit.{CpitParts}

-- the destination of a block
abbrev pub destination_of : List (List ℤ) → ℕ → ℕ
destination_of values block = first_largest (slice_index_or values block [])

-- the coefficient is at its block's destination
abbrev pub is_chosen : List (List ℤ) → Coef → Bool
is_chosen values c = c.d == destination_of values c.b

-- a coefficient, with the only destination as its destination
abbrev pub at_only_destination : Coef → Coef
at_only_destination c = record c { d = 0 }

-- the CPIT of an instance: each block's largest value, and the coefficients at its destination
abbrev pub cpit : Instance → CpitParts
cpit i = record {
  name = i.name;
  rate = i.rate;
  periods = i.periods;
  resources = i.resources;
  values = map largest i.values;
  coefs = map at_only_destination (filter (is_chosen i.values) i.coefs);
  limits = i.limits;
}
