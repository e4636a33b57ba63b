-- The content of a model file's header.
use Rattle.std.specs.Prelude.{ℕ, List, ℤ}
use Rattle.mine_instance.specs.cpit.Cpit.{CpitParts}
use Rattle.mine_instance.specs.Instance.{Instance}

-- the discount rate is in millionths
pub record StatedHeader : Type 0 where
  pub name : List ℕ
  pub periods : ℕ
  pub destinations : ℕ
  pub resources : ℕ
  pub rate : ℤ

-- the header of an instance
abbrev pub header_of : Instance → StatedHeader
header_of i = record {
  name = i.name;
  periods = i.periods;
  destinations = i.destinations;
  resources = i.resources;
  rate = i.rate;
}

-- the header of a constrained pit limit problem, which has one destination
abbrev pub header_of_cpit : CpitParts → StatedHeader
header_of_cpit c = record {
  name = c.name;
  periods = c.periods;
  destinations = 1;
  resources = c.resources;
  rate = c.rate;
}
