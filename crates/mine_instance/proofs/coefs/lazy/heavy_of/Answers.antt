use Rattle.std.proofs.Common.{◌++◌, ◌∙◌, ap, sym}
use Rattle.mine_instance.specs.inner.LazyCoefFields.{heavy_one}
use Rattle.mine_instance.proofs.BuildFacts.{numbered_next}
use Rattle.mine_instance.proofs.coefs.lazy.heavy_of.Goals as goal

pub loop-id-preserved : goal.loop-id-preserved
loop-id-preserved c =
    c.in_ok-push_if_heavy.ensures ∙ ap (λ heavy. heavy ++ heavy_one (c.loop-id.id, c.index-blocks-id.result)) c.loop-id.invariant
    ∙ sym (numbered_next heavy_one c.args.blocks.now c.loop-id.id c.index-blocks-id.result c.loop-id-test.true c.index-blocks-id.is)
