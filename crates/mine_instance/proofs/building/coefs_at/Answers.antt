use Rattle.std.proofs.Common.{◌++◌, ◌∙◌, ap, sym}
use Rattle.mine_instance.specs.coefs.CoveredPairs.{block_coefs}
use Rattle.mine_instance.proofs.BuildFacts.{numbered_next}
use Rattle.mine_instance.proofs.building.coefs_at.Goals as goal

pub loop-id-preserved : goal.loop-id-preserved
loop-id-preserved c =
    let own = block_coefs c.args.pairs.now in
    c.in_ok-push_coefs.ensures ∙ ap (λ coefs. coefs ++ own (c.loop-id.id, c.index-blocks-id.result)) c.loop-id.invariant
    ∙ sym (numbered_next own c.args.blocks.now c.loop-id.id c.index-blocks-id.result c.loop-id-test.true c.index-blocks-id.is)
