use Rattle.std.proofs.Common.{rules, ap, arith, length, List, sym, subst}
use Rattle.std.specs.List.{flat_map}
use Rattle.collector.specs.Lists.{AreRows}
use Rattle.rows.specs.ItemsView.{items_in}
use Rattle.collector.proofs.Few.{few-items}
use Rattle.collector.proofs.Ordered.{in-order}
use Rattle.rows.specs.declared.item.Valued.{Valued}
use Rattle.collector.proofs.ordering.in_order.Goals as goal

pub store_lists-requires-clause-short : goal.store_lists-requires-clause-short
store_lists-requires-clause-short c =
    let few = few-items c.args.files (flat_map (λ list. list) (items_in c.args.lists.items)) c.requires.complete in
    rw c.deref.ensures.value (omega (arith, few, c.requires.files))

pub new-requires : goal.new-requires
new-requires c =
    let ordered = in-order c.args.files (items_in c.args.lists.items) c.deref_mut.result.now c.store_lists.new.places _ c.in_ok-places.places.len
    c.in_ok-item_refs.item_refs.items c.requires.complete (search rules) c.in_ok-store_lists.ensures.count
    (rw c.deref.ensures.value at c.in_ok-store_lists.ensures.placed)
    (λ counts fits. c.in_ok-store_lists.ensures.few c.args.files counts (rw c.deref.ensures.value fits))
    (omega (arith, c.in_ok-places.places.ok, c.in_ok-store_lists.ensures.count, ap length c.deref_mut.ensures.value))
    c.in_ok-item_refs.ensures in
    ordered.0

pub returns : goal.returns
returns c =
    let ordered = in-order c.args.files (items_in c.args.lists.items) c.deref_mut.result.now c.store_lists.new.places _ c.in_ok-places.places.len
    c.in_ok-item_refs.item_refs.items c.requires.complete (search rules) c.in_ok-store_lists.ensures.count
    (rw c.deref.ensures.value at c.in_ok-store_lists.ensures.placed)
    (λ counts fits. c.in_ok-store_lists.ensures.few c.args.files counts (rw c.deref.ensures.value fits))
    (omega (arith, c.in_ok-places.places.ok, c.in_ok-store_lists.ensures.count, ap length c.deref_mut.ensures.value))
    c.in_ok-item_refs.ensures in
    subst (λ (rows : List Valued). AreRows c.args.files (flat_map (λ list. list) (items_in c.args.lists.items)) rows) (sym c.new.ensures) ordered.1
