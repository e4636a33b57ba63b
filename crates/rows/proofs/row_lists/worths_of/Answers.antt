use Rattle.std.proofs.Common.{rules, ◌≡◌, ◌∙◌, sym}
use Rattle.std.specs.Vec.Iter.{into_iter_items, into_iter_len}
use Rattle.rows.specs.ItemsView.{items_in}
use Rattle.rows.proofs.Own.{all-zipped}
use Rattle.rows.proofs.row_lists.worths_of.Goals as goal

pub returns : goal.returns
returns c =
    let none : into_iter_len c.loop-items.items-iterator ≡ 0 = search rules in
    all-zipped (items_in c.args.lists.items) (into_iter_items c.loop-items.items-iterator) c.loop-items.worths.items c.loop-items.invariant.come
    (sym c.loop-items.invariant.count ∙ none)
