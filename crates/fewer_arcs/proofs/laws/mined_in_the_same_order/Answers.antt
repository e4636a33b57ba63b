use Rattle.fewer_arcs.proofs.SameOptima.{mined_back, mined_there}
use Rattle.fewer_arcs.proofs.laws.mined_in_the_same_order.Goals as goal

pub returns : goal.returns
returns c = λ lists mined later. (mined_there lists later mined, mined_back lists later mined)
