use Rattle.lane.proofs.Steps as steps
use Rattle.lane.proofs.laws.runs_stay_lawful.Goals as goal

pub returns : goal.returns
returns c = steps.runs_stay_lawful
