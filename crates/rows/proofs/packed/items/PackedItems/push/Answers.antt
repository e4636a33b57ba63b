use Rattle.std.proofs.Common.{rules, ◌≡◌, ◌∙◌, ◌++◌, ◌∷◌, [], ap}
use Rattle.rows.specs.Packed.{AreWorths}
use Rattle.rows.specs.ItemsView.{PackedView}
use Rattle.rows.specs.inner.Entries.{item_with}
use Rattle.rows.proofs.Entries.{still_whole, one_more}
use Rattle.rows.proofs.packed.items.PackedItems.push.Goals as goal

pub invariant_of-self-2 : goal.invariant_of-self-2
invariant_of-self-2 g c =
    let fits : AreWorths c.self.inside.width c.args.own.now = search rules in
    let later : c.push_cents.new.worths.items ≡ c.self.inside.worths.items ++ c.args.own.now = search rules in
    let after : c.push.new.self.items ≡ c.self.inside.entries.items ++ c.args.entry ∷ [] = search rules in (
      still_whole c.self.inside.width c.self.inside.worths.items c.args.own.now _ c.self.inside.entries.items _ c.args.entry
          c.self.invariant.0 fits.0 later after,
      c.self.invariant.1,
      c.self.invariant.2,
    )

pub returns-clause-appended : goal.returns-clause-appended
returns-clause-appended g c =
    let fits : AreWorths c.self.inside.width c.args.own.now = search rules in
    let later : c.push_cents.new.worths.items ≡ c.self.inside.worths.items ++ c.args.own.now = search rules in
    let after : c.push.new.self.items ≡ c.self.inside.entries.items ++ c.args.entry ∷ [] = search rules in
    one_more c.self.inside.width c.self.inside.worths.items c.args.own.now _ c.self.inside.entries.items _ c.args.entry
    c.self.invariant.0 fits.0 later after
    ∙ ap (λ (v : PackedView). v.items ++ item_with c.args.own.now c.args.entry ∷ []) c.self.view_is
