use Rattle.std.proofs.Common.{rules, ◌≡◌, ◌∙◌, ◌*◌, ◌<◌, ap, arith, drop, length, sym, take, Some}
use Rattle.rows.specs.ItemsView.{PackedView}
use Rattle.rows.specs.inner.Entries.{item_with}
use Rattle.rows.proofs.Entries.{item_there, own_long, length-items_of}
use Rattle.rows.proofs.packed.items.PackedItems.at.Goals as goal

pub item-requires-clause-some : goal.item-requires-clause-some
item-requires-clause-some g c =
    let width = c.self.inside.width in
    let own : c.worths_of_item-own.result.now ≡ take width (drop (c.args.position * width) c.self.inside.worths.items) = search rules in
    let within : c.args.position < length c.self.inside.entries.items
    = omega (arith, c.requires, ap (λ (v : PackedView). length v.items) c.self.view_is, length-items_of width c.self.inside.worths.items c.self.inside.entries.items) in
    let long = own_long width c.self.inside.worths.items (length c.self.inside.entries.items) c.args.position c.self.invariant.0 within in
    omega (arith, ap length own, long, c.self.invariant.1)

pub returns : goal.returns
returns g c =
    let width = c.self.inside.width in
    let own = take width (drop (c.args.position * width) c.self.inside.worths.items) in
    let there = item_there c.self.inside.width c.self.inside.worths.items c.self.inside.entries.items c.args.self.now.items c.args.position
    c.index.result.now (ap (λ (v : PackedView). v.items) c.self.view_is) c.requires c.index.ensures in
    let worths : c.worths_of_item-own.result.now ≡ own = search rules in
    there ∙ ap Some (sym (c.item.ensures ∙ ap (λ o. item_with o c.index.result.now) worths))
