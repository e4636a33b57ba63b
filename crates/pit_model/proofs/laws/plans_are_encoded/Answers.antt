use Rattle.pit_model.proofs.PlanLaws.{plan_encoded}
use Rattle.pit_model.proofs.laws.plans_are_encoded.Goals as goal

pub returns : goal.returns
returns c = λ text p. ((plan_encoded text).reported p, (plan_encoded text).back p)
