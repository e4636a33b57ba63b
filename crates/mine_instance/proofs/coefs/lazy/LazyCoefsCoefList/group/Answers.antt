use Rattle.std.proofs.Common.{◌%◌, ◌∙◌, length, drop, ap, arith}
use Rattle.std.proofs.lemmas.List.{length-drop}
use Rattle.mine_instance.proofs.LazyFacts.{group_is, place_of, whole_within}
use Rattle.mine_instance.proofs.coefs.lazy.LazyCoefsCoefList.group.Goals as goal

pub nonzero_div-from : goal.nonzero_div-from
nonzero_div-from c = (place_of c.self.inside c.args.self.now _ c.self.view_is c.len-width.ensures c.args.from c.requires).0

pub index-block-requires : goal.index-block-requires
index-block-requires c =
    let place = place_of c.self.inside c.args.self.now _ c.self.view_is c.len-width.ensures c.args.from c.requires in
    omega (arith, place.1, c.self.inside.heavy.ok)

pub nonzero_rem-from : goal.nonzero_rem-from
nonzero_rem-from c = (place_of c.self.inside c.args.self.now _ c.self.view_is c.len-width.ensures c.args.from c.requires).0

pub split_at-requires : goal.split_at-requires
split_at-requires c =
    let place = place_of c.self.inside c.args.self.now _ c.self.view_is c.len-width.ensures c.args.from c.requires in
    omega (arith, place.2, c.len-width.ensures, c.self.inside.pairs.ok, ap length c.as_slice.ensures.value)

pub returns-clause-some : goal.returns-clause-some
returns-clause-some c =
    let place = place_of c.self.inside c.args.self.now _ c.self.view_is c.len-width.ensures c.args.from c.requires in
    let lent = ap length c.as_slice.ensures.value in
    omega (
      arith,
      place.2,
      c.len-width.ensures,
      c.self.inside.pairs.ok,
      lent,
      ap length c.split_at.ensures.back,
      length-drop (c.args.from % c.len-width.result) c.as_slice.result.now,
    )

pub returns-clause-within : goal.returns-clause-within
returns-clause-within c =
    let all = c.args.self.now in
    let pairs = c.self.inside.pairs.items in
    let back = c.split_at.ensures.back ∙ ap (drop (c.args.from % c.len-width.result)) c.as_slice.ensures.value in
    rw back (whole_within c.self.inside all _ c.self.view_is c.len-width.ensures c.args.from c.requires)

pub returns-clause-value : goal.returns-clause-value
returns-clause-value c =
    let all = c.args.self.now in
    let block = c.index-block.result.now in
    let back = c.split_at.ensures.back ∙ ap (drop (c.args.from % c.len-width.result)) c.as_slice.ensures.value in
    rw (back, c.tonnes.ensures)
    (group_is c.self.inside all _ c.self.view_is c.len-width.ensures c.args.from block c.requires c.index-block.ensures)
