use Rattle.pit_model.proofs.PlanInvariant.{encoded_plan}
use Rattle.pit_model.proofs.laws.encoded_is_plan.Goals as goal

pub returns : goal.returns
returns c = λ rows p h. encoded_plan rows p h
