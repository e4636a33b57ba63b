use Rattle.std.proofs.Common.{◌≡◌, length, map, get_or, arith, sym, ap, ◌∙◌, ◌++◌, ◌∷◌, []}
use Rattle.std.proofs.lemmas.List.{take_more, take_all, length_push, map-append}
use Rattle.std.proofs.lemmas.Option.{get_or_from_slice_get}
use Rattle.precedence.proofs.numbering.number_by_place.blocks_at.Goals as goal

pub loop-position-preserved : goal.loop-position-preserved
loop-position-preserved g c =
    let listed = g.L.ListedBlocks.listed c.args.listed.now in
    let positions = c.args.positions.now in
    let i = c.loop-position.position-index in
    let block = c.block_at.result in
    record {
      len = ap length c.in_ok-push.ensures.items ∙ length_push c.loop-position.ordered.items _ ∙ omega (arith, c.loop-position.invariant.len);
      blocks = λ d.
          let there : get_or listed (get_or positions i 0) d ≡ block =
          get_or_from_slice_get listed (get_or positions i 0) block d c.block_at.ensures in
          rw (take_more positions i 0 c.loop-position-test.true, map-append)
          (c.in_ok-push.ensures.items ∙ (λ j. c.loop-position.invariant.blocks d j ++ sym there j ∷ []));
    }

pub returns-clause-blocks : goal.returns-clause-blocks
returns-clause-blocks g c d =
    let listed = g.L.ListedBlocks.listed c.args.listed.now in
    c.loop-position.invariant.blocks d
    ∙ ap (λ ps. map (λ p. get_or listed p d) ps) (take_all _ _ c.loop-position-test.false)
