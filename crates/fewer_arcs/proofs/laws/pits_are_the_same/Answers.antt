use Rattle.fewer_arcs.proofs.SameOptima.{pit_back, pit_there}
use Rattle.fewer_arcs.proofs.laws.pits_are_the_same.Goals as goal

pub returns : goal.returns
returns c = λ lists pit later. (pit_there lists later pit, pit_back lists later pit)
