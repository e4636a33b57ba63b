use Rattle.std.proofs.Common.{rules, ◌≡◌, ◌<◌, ⊎_elim, arith, length, [], slice_index_or, subst, sym, All, ℕ}
use Rattle.std.proofs.lemmas.Bool.{cases_lt}
use Rattle.std.proofs.lemmas.List.Elements.{All-weaker}
use Rattle.collector.specs.Complete.{Fits}
use Rattle.collector.specs.inner.Places.{IsOfFile, IsPlaced}
use Rattle.collector.proofs.Few.{list-within}
use Rattle.collector.proofs.Placing.{all-lists, all-of-list, items-long}
use Rattle.rows.specs.ItemsView.{items_in}
use Rattle.rows.specs.Packed.{key_of}
use Rattle.rows.specs.declared.item.Item.{Item}
use Rattle.collector.proofs.ordering.store_lists.Goals as goal

pub store_list-requires-clause-files : goal.store_list-requires-clause-files
store_list-requires-clause-files c =
    let OfFile : ℕ → Item → Type 0 = λ files item. IsOfFile files (key_of item) in
    subst (λ (files : ℕ). All (OfFile files) (slice_index_or (items_in c.args.lists.now) c.loop-list.list [])) (sym c.loop-list.invariant.count)
    (all-of-list (OfFile (length c.args.places.now)) (items_in c.args.lists.now) c.loop-list.list c.requires.files
    (omega (arith, c.loop-list-test.true, items-long c.args.lists.now)))

pub store_list-requires-clause-short : goal.store_list-requires-clause-short
store_list-requires-clause-short c = omega (arith, list-within (items_in c.args.lists.now) c.loop-list.list, c.requires.short)

pub loop-list-preserved : goal.loop-list-preserved
loop-list-preserved c =
    let lists = items_in c.args.lists.now in
    let old = c.loop-list.places in
    let new = c.store_list.new.places in
    let before = c.loop-list.invariant in
    let kept : (item : Item) → IsPlaced lists old item → IsPlaced lists new item = search rules in
    let placed : All (IsPlaced lists new) (slice_index_or lists c.loop-list.list []) = search rules in
    record {
      placed = λ i below.
          ⊎_elim (λ earlier. All-weaker (IsPlaced lists old) (IsPlaced lists new) kept (slice_index_or lists i []) (before.placed i earlier))
          (λ now. let same : c.loop-list.list ≡ i = omega (arith, below, now) in
          subst (λ (k : ℕ). All (IsPlaced lists new) (slice_index_or lists k [])) same placed)
          (cases_lt i c.loop-list.list);
      few = λ files counts fit few.
          c.in_ok-store_list.ensures.few files counts
          (all-of-list (Fits files counts) lists c.loop-list.list fit
          (omega (arith, c.loop-list-test.true, items-long c.args.lists.now))) (before.few files counts fit few);
      count = search rules;
    }

pub returns-clause-placed : goal.returns-clause-placed
returns-clause-placed c =
    all-lists (IsPlaced (items_in c.args.lists.now) c.loop-list.places) (items_in c.args.lists.now)
    (λ i within.
    let below : i < length c.args.lists.now = omega (arith, within, items-long c.args.lists.now) in
    c.loop-list.invariant.placed i (search rules))
