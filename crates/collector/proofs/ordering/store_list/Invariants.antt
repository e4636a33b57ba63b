use Rattle.std.proofs.Common.{◌≡◌, ℕ, [], length, take, All, slice_index_or}
use Rattle.collector.specs.Complete.{Fits}
use Rattle.collector.specs.inner.Places.{AreFew, IsPlaced}
use Rattle.rows.specs.ItemsView.{items_in}
use Rattle.rows.specs.declared.item.Item.{Item}
use Rattle.collector.proofs.ordering.store_list.Given as goal

abbrev pub invariant-loop-position : goal.invariant-loop-position
invariant-loop-position l = record {
  placed : All (IsPlaced (items_in l.lists) l.places) (take l.position (slice_index_or (items_in l.lists) l.list []));
  kept : (item : Item) → IsPlaced (items_in l.lists) l.fn.places item → IsPlaced (items_in l.lists) l.places item;
  few : (files : ℕ) (counts : ℕ → ℕ) → All (Fits files counts) (slice_index_or (items_in l.lists) l.list []) → AreFew counts l.fn.places → AreFew counts l.places;
  count : length l.places ≡ length l.fn.places;
}
