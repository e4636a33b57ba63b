use Rattle.std.proofs.Common.{◌<◌, ◌≤◌, length, ap, sym, ◌∙◌, arith}
use Rattle.std.proofs.lemmas.List.{take_all}
use Rattle.std.proofs.lemmas.Option.{get_or_from_slice_get}
use Rattle.precedence.specs.inner.Seen.{placed}
use Rattle.precedence.proofs.SeenPlaces.{placed_on}
use Rattle.precedence.proofs.numbering.number_by_place.places_of_list.Goals as goal

pub loop-position-preserved : goal.loop-position-preserved
loop-position-preserved g c =
    let listed = g.L.ListedBlocks.listed c.args.listed.now in
    let position = c.loop-position.position in
    let block = c.block_at-block.result in
    let within : position < length listed = omega (arith, c.loop-position-test.true, c.count-count.ensures) in
    placed_on listed position c.code.result block c.loop-position.places.items _ within
    (sym (get_or_from_slice_get listed position block block c.block_at-block.ensures))
    c.code.ensures.value c.loop-position.invariant c.in_ok-push.ensures.items

pub returns : goal.returns
returns g c =
    let listed = g.L.ListedBlocks.listed c.args.listed.now in
    let past : length listed ≤ c.loop-position.position = omega (arith, c.loop-position-test.false, c.count-count.ensures) in
    c.loop-position.invariant ∙ ap (placed 0) (take_all c.loop-position.position listed past)
