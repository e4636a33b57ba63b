use Rattle.fewer_arcs.proofs.One.{is_one}
use Rattle.fewer_arcs.proofs.laws.reduced_lists_are_unique.Goals as goal

pub returns : goal.returns
returns c = is_one
