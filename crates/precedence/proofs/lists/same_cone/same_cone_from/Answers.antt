use Rattle.std.proofs.Common.{◌≡◌, ◌+◌, get_or, arith}
use Rattle.precedence.proofs.ranges.SameCone.{one_more}
use Rattle.precedence.proofs.lists.same_cone.same_cone_from.Goals as goal

pub returns-then-of_zone-zones : goal.returns-then-of_zone-zones
returns-then-of_zone-zones c = λ j lt.
    let codes = c.args.codes.now in
    let id = c.args.id in
    let next : get_or codes (id + 1) 0 ≡ get_or codes id 0 + 1 = omega (arith, c.if-saturating_sub-eq1.true, c.saturating_sub.ensures) in
    one_more codes c.args.of_zone.now c.args.zones.now id c.args.after c.requires.id next c.if-of_zone-zones.true c.requires.after j
    (omega (arith, lt, c.saturating_add.ensures))
