use Rattle.std.proofs.Common.{◌≡◌, ◌+◌, ◌<◌, ◌++◌, ◌∷◌, [], ◌∙◌, get_or, length, ap, sym, arith}
use Rattle.std.specs.List.{range_with_len}
use Rattle.std.proofs.lemmas.List.{take_more}
use Rattle.precedence.proofs.ranges.RangesOfRows.{range_more}
use Rattle.precedence.proofs.lists.ids_as_ranges.leading_range.Goals as goal

pub loop-len-init : goal.loop-len-init
loop-len-init c = record {
  some = omega arith;
  within = omega (arith, c.requires);
  small = omega arith;
  last = omega (arith, c.type_inv.ids 0);
  range = take_more c.args.ids.now 0 0 c.requires;
}

pub loop-len-preserved : goal.loop-len-preserved
loop-len-preserved c =
    let ids = c.args.ids.now in
    let len = c.loop-len.len in
    let first = get_or ids 0 0 in
    let more : len < length ids = omega (arith, c.loop-len-test.true, c.min-most.ensures) in
    let last : get_or ids len 0 ≡ first + len = omega (arith, c.if-ids-len.true) in
    record {
      some = omega arith;
      within = omega (arith, more);
      small = omega (arith, c.loop-len-test.true, c.min-most.ensures, c.type_inv.ids 0);
      last = omega (arith, c.loop-len-test.true, c.min-most.ensures, c.type_inv.ids 0);
      range =
          take_more ids len 0 more
          ∙ ap (λ range. range ++ get_or ids len 0 ∷ []) c.loop-len.invariant.range
          ∙ ap (λ id. range_with_len first len ++ id ∷ []) last
          ∙ sym (range_more first len (first + len) (omega arith));
    }
