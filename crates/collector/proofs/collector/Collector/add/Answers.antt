use Rattle.std.proofs.Common.{◌∙◌, ap, length}
use Rattle.collector.proofs.Grouped.{written_back}
use Rattle.collector.proofs.ItemsByFile.{kept-store}
use Rattle.collector.proofs.collector.Collector.add.Goals as goal

pub invariant_of-self-2 : goal.invariant_of-self-2
invariant_of-self-2 c =
    let items_by_file = c.self.inside.items_by_file in
    let borrowed = c.deref_mut.ensures.value in
    let store = c.in_ok-store_item.ensures in
    kept-store _ _ c.args.item items_by_file.items c.store_item.new.items_by_file c.deref_mut.result.now _ c.args.self.now
    c.self.view_is c.self.invariant c.in_default.ensures borrowed store.ok store.count c.with.ensures
    (written_back items_by_file.items c.store_item.new.items_by_file items_by_file.len items_by_file.ok.0 (store.count ∙ ap length borrowed))
