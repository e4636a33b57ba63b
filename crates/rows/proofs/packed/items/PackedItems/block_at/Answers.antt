use Rattle.std.proofs.Common.{◌∙◌, ◌*◌, ap, drop, sym, take}
use Rattle.std.specs.Option.{option_map, option_and_then}
use Rattle.rows.specs.Packed.{row_in}
use Rattle.rows.specs.ItemsView.{PackedView}
use Rattle.rows.proofs.Entries.{entry_block, item_there}
use Rattle.rows.specs.declared.item.Valued.{Valued}
use Rattle.rows.proofs.packed.items.PackedItems.block_at.Goals as goal

pub returns : goal.returns
returns g c =
    let width = c.self.inside.width in
    let own = take width (drop (c.args.position * width) c.self.inside.worths.items) in
    let there = item_there c.self.inside.width c.self.inside.worths.items c.self.inside.entries.items c.args.self.now.items c.args.position
    c.index.result.now (ap (λ (v : PackedView). v.items) c.self.view_is) c.requires c.index.ensures in
    let entry = c.index.result.now in
    c.block.ensures
    ∙ sym (ap (λ i. option_map (λ (row : Valued). row.block) (option_and_then row_in i)) there ∙ entry_block own entry.file entry.number entry.block)
