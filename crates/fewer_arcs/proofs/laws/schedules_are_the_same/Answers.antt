use Rattle.fewer_arcs.proofs.SameOptima.{schedule_back, schedule_there}
use Rattle.fewer_arcs.proofs.laws.schedules_are_the_same.Goals as goal

pub returns : goal.returns
returns c = λ lists period_of later. (schedule_there lists later period_of, schedule_back lists later period_of)
