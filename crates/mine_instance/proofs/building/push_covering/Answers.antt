use Rattle.mine_instance.proofs.BuildFacts.{covering_next, grown}
use Rattle.mine_instance.proofs.building.push_covering.Goals as goal

pub loop-number-preserved : goal.loop-number-preserved
loop-number-preserved c =
    grown c.args.pairs.now.items _ _ _ _ _ c.in_ok-push_if_covers.ensures c.loop-number.invariant
    (covering_next c.args.resources.now c.args.destination c.loop-number.number c.index-resources-number.result
    c.loop-number-test.true c.index-resources-number.is)
