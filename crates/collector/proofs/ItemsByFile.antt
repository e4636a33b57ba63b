-- The stored items of a file among all stored items.
use Rattle.std.proofs.Common.{◌≡◌, ℕ, ◌<◌, ◌≤◌, leb, List, [], ◌∷◌, ◌++◌, length, get_or, None, refl, sym, ap, subst, ◌∙◌}
use Rattle.std.proofs.lemmas.Bool.{cond-false, lt-leb}
use Rattle.rows.specs.declared.item.Item.{Item}
use Rattle.rows.specs.declared.item.Item.TheVariants.{Row, End}
use Rattle.std.specs.Option.{option_and_then, unwrap_or, option_map}
use Rattle.std.proofs.lemmas.Option.{slice_get_read}
use Rattle.rows.specs.declared.item.Valued.{Valued}
use Rattle.collector.specs.declared.file_items.FileItems.{FileItems}
use Rattle.collector.specs.inner.ItemsByFile.{rows_of_file, end_mark_of_file, row_fault, end_fault, item_fault, AreStored, AreGrouped}
use Rattle.collector.specs.Fault.{fault}
use Rattle.collector.specs.CollectorView.{CollectorView}
use Rattle.collector.proofs.Grouped.{grouped_more}

-- the fault after a file's stored items is the fault after all stored items
pub row_fault-at : (items_by_file : List FileItems) (v : Valued) (s : FileItems) → v.file < length items_by_file → s ≡ get_or items_by_file v.file s →
    row_fault s.rows s.end v.place ≡ item_fault (length items_by_file) (rows_of_file items_by_file) (end_mark_of_file items_by_file) (Row v)
row_fault-at items_by_file v s within read =
    let found = slice_get_read items_by_file (length items_by_file) v.file s refl within read in
    sym (cond-false (leb (length items_by_file) v.file) _ _ (lt-leb (length items_by_file) v.file within)
    ∙ ap (λ o. row_fault (unwrap_or (option_map (λ (t : FileItems). t.rows) o) []) (option_and_then (λ (t : FileItems). t.end) o) v.place) found)

pub end_fault-at : (items_by_file : List FileItems) (file count : ℕ) (s : FileItems) → file < length items_by_file → s ≡ get_or items_by_file file s →
    end_fault s.rows s.end count ≡ item_fault (length items_by_file) (rows_of_file items_by_file) (end_mark_of_file items_by_file) (End file count)
end_fault-at items_by_file file count s within read =
    let found = slice_get_read items_by_file (length items_by_file) file s refl within read in
    sym (cond-false (leb (length items_by_file) file) _ _ (lt-leb (length items_by_file) file within)
    ∙ ap (λ o. end_fault (unwrap_or (option_map (λ (t : FileItems). t.rows) o) []) (option_and_then (λ (t : FileItems). t.end) o) count) found)

-- another item, as the stored items are written back
pub kept-store : (held after : List Item) (item : Item) (old new borrowed back : List FileItems) (view : CollectorView) →
    record { files = length old; items = held } ≡ view → (length old ≤ 255) × AreGrouped (length old) held (rows_of_file old) (end_mark_of_file old) →
    None ≡ fault view.files view.items item → borrowed ≡ old → AreStored item (rows_of_file borrowed) (end_mark_of_file borrowed) (rows_of_file new) (end_mark_of_file new) →
    length new ≡ length borrowed → after ≡ held ++ item ∷ [] → back ≡ new →
    (length back ≤ 255) × AreGrouped (length back) after (rows_of_file back) (end_mark_of_file back)
kept-store held after item old new borrowed back view is_view kept sound is_old store same is_after is_back =
    let put_old = rw is_old at store in
    let same_old : length new ≡ length old = same ∙ ap length is_old in
    let sound_old : fault (length old) held item ≡ None
    = sym (subst (λ (v : CollectorView). None ≡ fault v.files v.items item) (sym is_view) sound) in
    rw (is_back, is_after, same_old) (
      kept.0,
      grouped_more (length old) held (rows_of_file old) (rows_of_file new) (end_mark_of_file old) (end_mark_of_file new) item kept.1 sound_old put_old,
    )
