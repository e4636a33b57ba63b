use Rattle.pit_model.proofs.CellFacts.{below, name, number, origin, size, whole}
use Rattle.pit_model.proofs.laws.cells_are_encoded.Goals as goal

pub returns : goal.returns
returns c = record {
  numbers = λ decimals low high cell m few. let all = number decimals low high cell few in (all.reported m, all.back m);
  whole = λ low high cell n. ((whole low high cell).reported n, (whole low high cell).back n);
  below = λ limit cell n. ((below limit cell).reported n, (below limit cell).back n);
  origins = λ cell mm. ((origin cell).reported mm, (origin cell).back mm);
  sizes = λ cell mm. ((size cell).reported mm, (size cell).back mm);
  names = λ cell is. ((name cell).reported is, (name cell).back is);
}
