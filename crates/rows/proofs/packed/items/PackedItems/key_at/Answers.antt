use Rattle.std.proofs.Common.{◌∙◌, ◌*◌, ap, drop, sym, take, Some}
use Rattle.std.specs.Option.{option_map}
use Rattle.rows.specs.Packed.{key_of}
use Rattle.rows.specs.ItemsView.{PackedView}
use Rattle.rows.proofs.Entries.{item_there}
use Rattle.rows.proofs.packed.items.PackedItems.key_at.Goals as goal

pub returns : goal.returns
returns g c =
    let width = c.self.inside.width in
    let own = take width (drop (c.args.position * width) c.self.inside.worths.items) in
    let there = item_there c.self.inside.width c.self.inside.worths.items c.self.inside.entries.items c.args.self.now.items c.args.position
    c.index.result.now (ap (λ (v : PackedView). v.items) c.self.view_is) c.requires c.index.ensures in
    ap (option_map key_of) there ∙ ap Some (sym (c.item_key.ensures own))
