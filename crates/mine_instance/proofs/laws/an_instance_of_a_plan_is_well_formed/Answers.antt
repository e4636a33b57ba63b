use Rattle.mine_instance.proofs.WellFormedLaws.{instance_well_formed}
use Rattle.mine_instance.proofs.laws.an_instance_of_a_plan_is_well_formed.Goals as goal

pub returns : goal.returns
returns c = instance_well_formed
