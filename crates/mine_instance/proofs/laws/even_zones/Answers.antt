use Rattle.std.proofs.Common.{ap}
use Rattle.mine_instance.specs.OfModel.{by_identifier, instance_of}
use Rattle.mine_instance.proofs.laws.even_zones.Goals as goal

pub returns : goal.returns
returns c plan listed cones even =
    ap (λ lists. record (instance_of plan (by_identifier listed)) { preds = lists }) (c.even_zones.ensures plan (by_identifier listed) cones even)
