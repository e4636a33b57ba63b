use Rattle.fewer_arcs.proofs.Same.{same, paths}
use Rattle.fewer_arcs.proofs.laws.reduced_lists_imply_all_arcs.Goals as goal

pub returns-clause-same : goal.returns-clause-same
returns-clause-same c = same

pub returns-clause-paths : goal.returns-clause-paths
returns-clause-paths c = paths
