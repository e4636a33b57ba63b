use Rattle.fewer_arcs.proofs.Same.{list_is_reduced}
use Rattle.fewer_arcs.proofs.laws.lists_are_reduced.Goals as goal

pub returns : goal.returns
returns c = list_is_reduced
