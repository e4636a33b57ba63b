-- The content of a model file, and its relation to an instance and a constrained pit limit problem.
use Rattle.std.specs.Prelude.{ℕ, List, [], ◌∷◌, map, ℤ, pos}
use Rattle.plan_parts.specs.declared.limit.Limit.{Limit}
use Rattle.mine_instance.specs.cpit.Cpit.{CpitParts}
use Rattle.mine_instance.specs.declared.coefs.coef.Coef.{Coef}
use Rattle.mine_instance.specs.Instance.{Instance}
use Rattle.minelib_lines.specs.StatedHeader.{StatedHeader, header_of, header_of_cpit}
use Rattle.minelib_lines.specs.declared.header_key.HeaderKey.TheVariants as key
use Rattle.minelib_reading.specs.HeaderNumbers.{count_in}
use Rattle.minelib_reading.specs.ModelDraft.{ModelDraftView}
use Rattle.minelib_reading.specs.declared.model.key.Header.{Header}

-- the header and the sections: a value for each block and destination, coefficients, and limits
pub record StatedModel : Type 0 where
  pub header : StatedHeader
  pub values : List (List ℤ)
  pub coefs : List Coef
  pub limits : List Limit

-- the part of an instance that its model file states
abbrev pub model_of : Instance → StatedModel
model_of i = record {
  header = header_of i;
  values = i.values;
  coefs = i.coefs;
  limits = i.limits;
}

-- a value, as the values of the only destination
abbrev pub alone : ℤ → List ℤ
alone v = v ∷ []

-- a constrained pit limit problem as its model file states it: with one destination
abbrev pub model_of_cpit : CpitParts → StatedModel
model_of_cpit c = record {
  header = header_of_cpit c;
  values = map alone c.values;
  coefs = c.coefs;
  limits = c.limits;
}

-- the header that a NAME and the numbers of header keys state
abbrev pub header_stated : List ℕ → Header → StatedHeader
header_stated name h = record {
  name = name;
  periods = count_in h key.Periods;
  destinations = count_in h key.Destinations;
  resources = count_in h key.Resources;
  rate = pos (count_in h key.Rate);
}

-- the content of the lines so far
abbrev pub stated_by : ModelDraftView → StatedModel
stated_by d = record {
  header = header_stated d.name d.header;
  values = d.values;
  coefs = d.coefs;
  limits = d.limits;
}
