use Rattle.std.proofs.Common.{◌≡◌, ℕ, ◌+◌, ◌-◌, ◌&&◌, nat_le, nat_lt, min, refl, ap, ◌∙◌, arith}
use Rattle.std.proofs.lemmas.List.{get_or_read}
use Rattle.precedence.proofs.bits.Looking.{same_cone_in, range_is}
use Rattle.precedence.proofs.lanes.looking.range_from.Goals as goal

pub returns : goal.returns
returns c =
    let id = c.args.id in
    let code = get_or_read c.args.cones.now.places.now.codes.items id c.index.result.now c.requires.id c.index.ensures 0 in
    let count = c.max-count.result in
    let first = c.index.result.now - c.args.from in
    let past : c.min-past.result ≡ min (first + count) c.args.most = c.min-past.ensures ∙ ap (min (first + count)) c.from-2.ensures in
    range_is c.args.cones.now id (id + count) c.args.from c.args.most first count c.bits_between.result c.requires.id (omega arith)
    refl (omega arith) (same_cone_in c.args.cones.now id count c.requires.id (omega arith))
    (λ p. c.bits_between.ensures p ∙ ap (λ (n : ℕ). nat_le first p && nat_lt p n) past)
