use Rattle.std.proofs.Common.{ap, sym, subst, ◌∙◌}
use Rattle.zone_csv.proofs.CentroidFacts.{centroid_in_grid, centroid_index, centroid_on_step, index_is_centroid}
use Rattle.zone_csv.specs.Cell.{index_at, is_on_step}
use Rattle.zone_csv.specs.EncodedRow.{IsInGrid}
use Rattle.zone_csv.proofs.laws.coordinates.Goals as goal

pub returns : goal.returns
returns c = λ axis coordinate index some. (
  λ h. index_is_centroid axis some coordinate index h.0 h.1 h.2,
  λ there. (
    subst (IsInGrid axis) (sym there.0) (centroid_in_grid axis some index there.1),
    ap (is_on_step axis) there.0 ∙ centroid_on_step axis some index,
    ap (index_at axis) there.0 ∙ centroid_index axis some index,
  ),
)
