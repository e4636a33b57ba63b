use Rattle.std.proofs.Common.{◌<◌, arith, length, sym, ap, subst, List}
use Rattle.std.proofs.lemmas.List.{length-map}
use Rattle.rows.specs.declared.packed.worths.PackedWorths.{PackedWorths}
use Rattle.rows.specs.inner.Own.{own_on, HasOwn}
use Rattle.rows.proofs.row_worths.RowWorths.at.Goals as goal

pub own_on-requires : goal.own_on-requires
own_on-requires c =
    let lists = c.self.inside.lists.items in
    let item_refs = c.self.inside.item_refs.items in
    let item_ref = c.index-item_ref.result.now in
    let within : c.args.position < length item_refs
    = omega (arith, c.requires, ap length c.self.view_is, length-map item_refs (own_on lists)) in
    subst (λ (ls : List PackedWorths). HasOwn ls item_ref) (sym c.deref.ensures.value)
    (subst (HasOwn lists) (sym c.index-item_ref.ensures) (c.self.invariant c.args.position item_ref within))
