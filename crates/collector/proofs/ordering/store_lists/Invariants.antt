use Rattle.std.proofs.Common.{◌≡◌, ◌<◌, ℕ, [], length, All, slice_index_or}
use Rattle.std.specs.List.{flat_map}
use Rattle.collector.specs.Complete.{Fits}
use Rattle.collector.specs.inner.Places.{AreFew, IsPlaced}
use Rattle.rows.specs.ItemsView.{items_in}
use Rattle.collector.proofs.ordering.store_lists.Given as goal

abbrev pub invariant-loop-list : goal.invariant-loop-list
invariant-loop-list l = record {
  placed : (i : ℕ) → i < l.list → All (IsPlaced (items_in l.lists) l.places) (slice_index_or (items_in l.lists) i []);
  few : (files : ℕ) (counts : ℕ → ℕ) → All (Fits files counts) (flat_map (λ list. list) (items_in l.lists)) → AreFew counts l.fn.places
      → AreFew counts l.places;
  count : length l.places ≡ length l.fn.places;
}
