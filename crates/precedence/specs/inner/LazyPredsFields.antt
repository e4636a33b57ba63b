-- The lists that the codes, zones and tables of a search represent.
use Rattle.std.specs.Prelude.{◌≡◌, ◌<◌, ℕ, List, All, length}
use Rattle.precedence.specs.inner.SameCone.{HaveSameCone}
use Rattle.precedence.specs.inner.lanes.Windows.{AreWindows, Scene}
use Rattle.precedence.specs.inner.Lists.{in_cones}
use Rattle.precedence.specs.declared.lists.lazy_preds.LazyPreds.TheInside.{Inside}

abbrev pub lazy_lists_of : Inside → List (List ℕ)
lazy_lists_of f = in_cones f.tables.tables.items f.tables.of_zone.items f.places.codes.items f.zones.items f.places.codes.items

abbrev pub scene_in : Inside → Scene
scene_in f = record { codes = f.places.codes.items; zones = f.zones.items; of_zone = f.tables.of_zone.items; tables = f.tables.tables.items }

-- each block has a zone with a table, and the number of blocks from it on that follow one another with that table; and each window has
-- its lanes' reduced lists
pub record IsLazyPreds (f : Inside) : Type 0 where
  pub each : length f.zones.items ≡ length f.places.codes.items
  pub zones : All (λ z. z < length f.tables.of_zone.items) f.zones.items
  pub same_cone : HaveSameCone f.places.codes.items f.tables.of_zone.items f.zones.items f.same_cone.items
  pub windows : AreWindows (scene_in f) f.windows
