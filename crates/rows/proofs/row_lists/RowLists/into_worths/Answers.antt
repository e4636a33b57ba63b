use Rattle.std.proofs.Common.{◌∙◌, map, ap, List}
use Rattle.rows.specs.ItemsView.{items_in}
use Rattle.rows.specs.declared.item.Valued.{Valued}
use Rattle.rows.proofs.Own.{own-all, same-worths}
use Rattle.rows.proofs.row_lists.RowLists.into_worths.Goals as goal

pub new-requires : goal.new-requires
new-requires c =
    own-all (items_in c.self.inside.lists.items) c.in_ok-worths_of.field-0.items c.in_ok-worths_of.ensures c.self.inside.item_refs.items c.self.invariant

pub returns : goal.returns
returns c =
    c.new.ensures
    ∙ same-worths (items_in c.self.inside.lists.items) c.in_ok-worths_of.field-0.items c.in_ok-worths_of.ensures c.self.inside.item_refs.items c.self.invariant
    ∙ ap (λ (rows : List Valued). map (λ (row : Valued). row.worths) rows) c.self.view_is
