use Rattle.std.proofs.Common.{◌≡◌, ◌++◌, ◌∙◌, [], length, map, get_or, ap, sym, arith}
use Rattle.mine_instance.specs.Largest.{first_largest}
use Rattle.mine_instance.specs.coefs.Groups.{coefs_in, pairs_of}
use Rattle.mine_instance.specs.cpit.OfCpit.{at_only_destination}
use Rattle.mine_instance.proofs.GroupFacts.{chosen_more, group_there, same_choice}
use Rattle.mine_instance.proofs.cpit_building.chosen_of.Goals as goal

pub of_block-requires : goal.of_block-requires
of_block-requires g c =
    group_there c.group-group.result (g.C.CoefList.list c.args.coefs.now) c.loop-from.from (length (g.V.ValueList.list c.args.values.now))
    c.group-group.ensures.some c.group-group.ensures.value (omega (arith, c.loop-from-test.true, c.len.ensures)) c.requires.there

pub first_largest-destination-requires : goal.first_largest-destination-requires
first_largest-destination-requires g c =
    let within = group_there c.group-group.result (g.C.CoefList.list c.args.coefs.now) c.loop-from.from (length (g.V.ValueList.list c.args.values.now))
    c.group-group.ensures.some c.group-group.ensures.value (omega (arith, c.loop-from-test.true, c.len.ensures)) c.requires.there in
    rw c.of_block.ensures (c.requires.some c.group-group.result.b [] within)

pub loop-from-preserved : goal.loop-from-preserved
loop-from-preserved g c =
    let all = g.C.CoefList.list c.args.coefs.now in
    let from = c.loop-from.from in
    let group = c.group-group.result in
    let values = g.V.ValueList.list c.args.values.now in
    let count : c.len-from.result ≡ length (pairs_of group.pairs) = c.len-from.ensures in
    let at_destination : c.first_largest-destination.result ≡ first_largest (get_or values group.b []) =
    c.first_largest-destination.ensures.value ∙ ap first_largest c.of_block.ensures in
    let same = same_choice values group.b group.v c.first_largest-destination.result (pairs_of group.pairs) at_destination in
    record {
      within = rw count c.group-group.ensures.within;
      chosen =
          c.in_ok-push_at.ensures ∙ (λ j. c.loop-from.invariant.chosen j ++ map at_only_destination (same j))
          ∙ sym (rw count (chosen_more values all (coefs_in group) from (length (pairs_of group.pairs)) c.group-group.ensures.value));
    }
