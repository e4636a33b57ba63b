use Rattle.std.proofs.Common.{◌+◌, ◌++◌, ◌∷◌, [], ◌∙◌, ap, sym, arith, append_assoc}
use Rattle.precedence.proofs.ranges.RangesOfRows.{range_more}
use Rattle.precedence.proofs.lists.ids_as_ranges.add_ids_of_range.Goals as goal

pub loop-k-preserved : goal.loop-k-preserved
loop-k-preserved c =
    let range = c.args.range in
    let k = c.loop-k.k in
    let before = c.args.list.now.items in
    c.in_ok-push.ensures.items ∙ ap (λ ids. ids ++ (range.first + k) ∷ []) c.loop-k.invariant
    ∙ append_assoc before _ ((range.first + k) ∷ [])
    ∙ ap (λ ids. before ++ ids) (sym (range_more range.first k (range.first + k) (omega arith)))
