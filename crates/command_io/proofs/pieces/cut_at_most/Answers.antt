use Rattle.std.proofs.Common.{◌≡◌, ◌++◌, length, ap, ◌∙◌, rules, arith}
use Rattle.command_io.proofs.Walk.{cut_on, less_remaining, more_than_held, one_more_fits, pieces_after}
use Rattle.command_io.proofs.pieces.cut_at_most.Goals as goal

pub loop-following-preserved : goal.loop-following-preserved
loop-following-preserved c =
    let zones = c.loop-following.zones.items in
    let found = c.first_piece-in-Some in
    record {
      pieces = cut_on
          _
          zones
          _
          c.in-Some.rest.now
          c.in_ok-copied.field-0
          found.result.1
          (c.loop-following.invariant.pieces ∙ ap (λ following. zones ++ pieces_after following) c.in-Some.is)
          (c.in_ok-copied.ensures ∙ found.ensures.first)
          found.ensures.further
          c.in_ok-push.ensures.items;
      held = one_more_fits zones _ _ c.args.most c.len.result c.in_ok-push.ensures.items c.loop-following.invariant.held
          (search rules) c.if-len-most.false;
      short = less_remaining zones _ _ c.in-Some.rest c.loop-following.following found.result.1 _ c.in_ok-push.ensures.items
          c.in-Some.is found.ensures.shorter c.loop-following.invariant.short;
    }

pub returns-then-len-most-clause-more : goal.returns-then-len-most-clause-more
returns-then-len-most-clause-more c =
    λ is. let held : length c.loop-following.zones.items ≡ c.args.most = search rules in
    let more = more_than_held _ c.loop-following.zones.items c.in-Some.rest.now
    (c.loop-following.invariant.pieces ∙ ap (λ following. c.loop-following.zones.items ++ pieces_after following) c.in-Some.is) in
    omega (arith, held, more)
