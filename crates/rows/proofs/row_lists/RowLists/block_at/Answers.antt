use Rattle.std.proofs.Common.{◌∙◌, ap, sym}
use Rattle.std.specs.Option.{option_map}
use Rattle.rows.specs.ItemsView.{items_in}
use Rattle.rows.specs.Packed.{row_on}
use Rattle.rows.specs.declared.item.Valued.{Valued}
use Rattle.rows.proofs.Found.{found_there}
use Rattle.rows.proofs.row_lists.RowLists.block_at.Goals as goal

pub returns : goal.returns
returns c =
    let row = found_there (row_on (items_in c.self.inside.lists.items)) c.self.inside.item_refs.items c.args.self.now c.args.position c.index-item_ref.result.now
    c.self.invariant c.self.view_is c.requires c.index-item_ref.ensures in
    (rw c.deref.ensures.value at c.block_on.ensures) ∙ ap (option_map (λ (v : Valued). v.block)) (sym row)
