-- The rows that a collector returns, or the missing row.
use Rattle.std.proofs.Common.{◌≡◌, ℕ, suc, zero, ◌<◌, ◌≤◌, true, eqb, is_some, List, [], ◌∷◌, length, map, Option, Some, None, sym, ap, subst, ◌∙◌, ⊎_elim, arith}
use Rattle.std.proofs.lemmas.List.{length-map}
use Rattle.std.specs.List.{slice_get}
use Rattle.std.specs.Option.{option_and_then}
use Rattle.std.proofs.lemmas.Bool.{cases_lt, cases_Bool, cond-true, cond-false, false≢true}
use Rattle.std.proofs.lemmas.Option.{slice_get_past, none-some, same_Some}
use Rattle.rows.specs.declared.item.Item.{Item}
use Rattle.rows.specs.declared.item.Valued.{Valued}
use Rattle.collector.specs.declared.missing.Missing.{Missing}
use Rattle.pit_units.specs.declared.or_memory.OrMemory.{OrMemory}
use Rattle.pit_units.specs.declared.or_memory.OrMemory.TheVariants.{Fault, OutOfMemory}
use Rattle.collector.specs.declared.file_items.FileItems.{FileItems}
use Rattle.collector.specs.inner.ItemsByFile.{if_at, slot, rows_of_file, end_mark_of_file, AreGrouped, AreItemsOfFile, IsFilled, IsFirstLacking}
use Rattle.collector.specs.CollectorView.{CollectorView}
use Rattle.collector.specs.Lists.{AreLists, IsFull, IsOpen, IsMissing, IsFinishFault}
use Rattle.collector.proofs.Slots.{slot-past}

-- a slot with a row has the row at its index
row-or-none : (place : ℕ) (o : Option Valued) → is_some (option_and_then (if_at place) o) ≡ true → o ≡ option_and_then (if_at place) o
row-or-none place None full = absurd (false≢true full)
row-or-none place (Some v) full =
    ⊎_elim (λ yes. sym (cond-true (eqb v.place place) (Some v) None yes))
    (λ no. absurd (false≢true (sym (ap is_some (cond-false (eqb v.place place) (Some v) None no)) ∙ full)))
    (cases_Bool (eqb v.place place))

get-filled-row : (rows : List Valued) (end : Option ℕ) (place : ℕ) → IsFilled rows end → slice_get rows place ≡ slot rows place
get-filled-row rows end place filled =
    ⊎_elim (λ within. row-or-none place (slice_get rows place) (filled.1 place within))
    (λ past. slice_get_past rows place past ∙ sym (slot-past rows place past))
    (cases_lt place (length rows))

-- the stored rows are lists
list-of : (items_by_file : List FileItems) (file : ℕ) (rows : List Valued) →
    slice_get (map (λ (s : FileItems). s.rows) items_by_file) file ≡ Some rows → (file < length items_by_file) × (rows_of_file items_by_file file ≡ rows)
list-of [] file rows got = absurd (none-some rows got)
list-of (s ∷ items_by_file) zero rows got = (omega arith, same_Some s.rows rows got)
list-of (s ∷ items_by_file) (suc file) rows got = let h = list-of items_by_file file rows got in (omega (arith, h.0), h.1)

pub are_lists : (held : List Item) (items_by_file : List FileItems) (lists : List (List Valued)) (view : CollectorView) →
    record { files = length items_by_file; items = held } ≡ view →
    (length items_by_file ≤ 255) × AreGrouped (length items_by_file) held (rows_of_file items_by_file) (end_mark_of_file items_by_file) →
    ((file : ℕ) → file < length items_by_file → IsFilled (rows_of_file items_by_file file) (end_mark_of_file items_by_file file)) →
    lists ≡ map (λ (s : FileItems). s.rows) items_by_file → AreLists view.files view.items lists
are_lists held items_by_file lists view is_view kept filled is_map =
    subst (λ (v : CollectorView). AreLists v.files v.items lists) is_view (rw is_map (record {
      count = length-map items_by_file (λ (s : FileItems). s.rows);
      ends = λ file rows got. let at = list-of items_by_file file rows got in
          (kept.1.items_of_file file).ended ∙ (filled file at.0).0 ∙ ap (λ rs. Some (length rs)) at.1;
      rows = λ file place rows got. let at = list-of items_by_file file rows got in
          ap (λ rs. slice_get rs place) (sym at.1)
          ∙ get-filled-row (rows_of_file items_by_file file) (end_mark_of_file items_by_file file) place (filled file at.0)
          ∙ sym ((kept.1.items_of_file file).row place);
    }))

-- a filled file is a full one
full-kept : (held : List Item) (file : ℕ) (rows : List Valued) (end : Option ℕ) → AreItemsOfFile held file rows end → IsFilled rows end
    → IsFull held file
full-kept held file rows end items_of_file filled =
    (length rows, items_of_file.ended ∙ filled.0, λ place below. ap is_some (items_of_file.row place) ∙ filled.1 place below)

pub is_missing : (held : List Item) (items_by_file : List FileItems) (why : OrMemory Missing) (view : CollectorView) →
    record { files = length items_by_file; items = held } ≡ view →
    (length items_by_file ≤ 255) × AreGrouped (length items_by_file) held (rows_of_file items_by_file) (end_mark_of_file items_by_file) →
    IsFirstLacking items_by_file why → IsFinishFault view.files view.items why
is_missing held items_by_file OutOfMemory view is_view kept lacking = absurd lacking
is_missing held items_by_file (Fault missing) view is_view kept lacking =
    let here = kept.1.items_of_file missing.file in
    subst (λ (v : CollectorView). IsMissing v.files v.items missing.file missing.place) is_view (record {
      within = lacking.0;
      before =
          λ other below. full-kept held other (rows_of_file items_by_file other) (end_mark_of_file items_by_file other) (kept.1.items_of_file other) (lacking.1 other below);
      open_at = subst (λ (o : Option ℕ). IsOpen o missing.place) (sym here.ended) lacking.2.2;
      none = here.row missing.place ∙ lacking.2.0;
      least = λ other below. ap is_some (here.row other) ∙ lacking.2.1 other below;
    })
