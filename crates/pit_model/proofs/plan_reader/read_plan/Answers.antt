use Rattle.pit_units.proofs.BothWays.{found_of, only_of}
use Rattle.pit_model.specs.EncodedPlan.{EncodePlan}
use Rattle.records.specs.Records.{records_of}
use Rattle.pit_model.proofs.plan_reader.read_plan.Goals as goal

pub returns-clause-found : goal.returns-clause-found
returns-clause-found c =
    found_of (EncodePlan (records_of c.args.text.now)) _ _ (λ p is. (c.plans_are_encoded.ensures c.args.text.now p).0 is) c.plan_stated.ensures

pub returns-clause-only : goal.returns-clause-only
returns-clause-only c = λ p encoded. only_of p _ _ ((c.plans_are_encoded.ensures c.args.text.now p).1 encoded) c.plan_stated.ensures
