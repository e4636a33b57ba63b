use Rattle.fewer_arcs.proofs.ReducedLists.{in_choice}
use Rattle.fewer_arcs.proofs.laws.covering_sets_contain_reduced_lists.Goals as goal

pub returns : goal.returns
returns c = in_choice
