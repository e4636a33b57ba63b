use Rattle.std.proofs.Common.{rules, ◌≡◌, ◌∙◌, ap, arith, length, List, [], slice_index_or, slice_get, subst, sym, take, All, refl}
use Rattle.std.specs.Option.{option_map}
use Rattle.std.proofs.lemmas.List.{take_all}
use Rattle.std.proofs.lemmas.List.Elements.{All-weaker}
use Rattle.std.proofs.lemmas.Option.{get_or_from_slice_get, slice_get_within}
use Rattle.collector.specs.Complete.{Fits}
use Rattle.collector.specs.inner.Places.{IsPlaced, IsStoredAs}
use Rattle.collector.proofs.Placing.{all-next, item-few, item-kept, item-placed, item_of_key, items-long, on-list, read-list}
use Rattle.rows.specs.ItemsView.{items_in}
use Rattle.rows.specs.Packed.{key_of}
use Rattle.rows.specs.declared.item_key.ItemKey.{ItemKey}
use Rattle.rows.specs.ItemRefView.{ItemRefView}
use Rattle.rows.specs.declared.item.Item.{Item}
use Rattle.collector.proofs.ordering.store_list.Goals as goal

pub new-requires-clause-position : goal.new-requires-clause-position
new-requires-clause-position c =
    let read = read-list c.args.lists.now c.args.list c.index-lists-list.result c.requires.there c.index-lists-list.is in
    omega (arith, c.loop-position-test.true, c.len-position-end.ensures, ap length read, c.requires.short)

pub loop-position-preserved : goal.loop-position-preserved
loop-position-preserved c =
    let lists = items_in c.args.lists.now in
    let items = slice_index_or lists c.args.list [] in
    let i = c.loop-position.position in
    let read = read-list c.args.lists.now c.args.list c.index-lists-list.result c.requires.there c.index-lists-list.is in
    let there = item_of_key (slice_get items i) c.key_at-item_key.result
    (ap (λ (xs : List Item). option_map key_of (slice_get xs i)) (sym read) ∙ c.key_at-item_key.ensures) in
    let old = c.loop-position.places in
    let new = c.store_by_key.new.places in
    let before = c.loop-position.invariant in
    let item_ref : ItemRefView = record { list = c.args.list; position = i } in
    let store : IsStoredAs c.key_at-item_key.result item_ref old new = search rules in
    let as_item = subst (λ (m : ItemKey). IsStoredAs m item_ref old new) (sym there.2) store in
    let row = on-list lists c.args.list i item_ref there.0 refl refl (omega (arith, c.requires.there, items-long c.args.lists.now)) there.1 in
    let kept = item-kept lists old new item_ref there.0 row as_item in
    record {
      placed = all-next (IsPlaced lists new) items i there.0 there.1 (item-placed lists old new item_ref there.0 row as_item)
          (All-weaker (IsPlaced lists old) (IsPlaced lists new) kept (take i items) before.placed);
      kept = λ item was. kept item (before.kept item was);
      few = λ files counts fit few.
          item-few lists old new item_ref files counts there.0
          (subst (Fits files counts) (get_or_from_slice_get items i there.0 there.0 there.1)
          (fit i there.0 (slice_get_within items i there.0 there.1))) as_item (before.few files counts fit few);
      count = search rules;
    }

pub returns-clause-placed : goal.returns-clause-placed
returns-clause-placed c =
    let items = slice_index_or (items_in c.args.lists.now) c.args.list [] in
    let read = read-list c.args.lists.now c.args.list c.index-lists-list.result c.requires.there c.index-lists-list.is in
    let whole : take c.loop-position.position items ≡ items
    = take_all c.loop-position.position items (omega (arith, c.loop-position-test.false, c.len-position-end.ensures, ap length read)) in
    subst (λ (xs : List Item). All (IsPlaced (items_in c.args.lists.now) c.loop-position.places) xs) whole c.loop-position.invariant.placed
