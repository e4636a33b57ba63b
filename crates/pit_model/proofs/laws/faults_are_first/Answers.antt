use Rattle.pit_model.proofs.PlanLaws.{fails_planned, plan_spoiled, planned_fails}
use Rattle.pit_model.proofs.laws.faults_are_first.Goals as goal

pub returns : goal.returns
returns c = record {
  first = λ text fault. (planned_fails text fault, fails_planned text fault);
  spoiled = plan_spoiled;
}
