-- The worths of rows, once their entries are given up.
use Rattle.std.proofs.Common.{◌≡◌, ℕ, zero, suc, ◌*◌, ◌+◌, ◌≤◌, ℤ, true, is_some, List, [], ◌∷◌, ◌++◌, length, map, take, drop, Option, Some, None, refl, sym, ap, subst, ◌∙◌, arith}
use Rattle.std.specs.List.{All, AllZip, cons_option, filter_map, slice_get}
use Rattle.std.specs.Option.{option_and_then, option_map, unwrap_or}
use Rattle.std.proofs.lemmas.Bool.{false≢true}
use Rattle.std.proofs.lemmas.List.{append-nil}
use Rattle.std.proofs.lemmas.List.Elements.{All-cons, All-nil, All-tail}
use Rattle.std.proofs.lemmas.Option.{none-some, same_Some, slice_get_within}
use Rattle.plan_parts.specs.declared.block.Block.{Block}
use Rattle.rows.specs.ItemsView.{items_in, PackedView}
use Rattle.rows.specs.Packed.{row_in, row_of, row_on, HasRow}
use Rattle.rows.specs.declared.item.Item.{Item}
use Rattle.rows.specs.declared.item.Valued.{Valued}
use Rattle.rows.specs.declared.packed.worths.PackedWorths.{PackedWorths}
use Rattle.rows.specs.ItemRefView.{ItemRefView}
use Rattle.rows.specs.inner.EntryView.{EntryView}
use Rattle.rows.specs.inner.Entries.{item_of, item_with, items_of}
use Rattle.rows.specs.inner.Own.{own_at, own_on, HasOwn, HasWorths}
use Rattle.rows.proofs.Entries.{item_at, own_within}

entry-worths : (own : List ℤ) (o : Option EntryView) (row : Valued) → option_and_then row_in (option_map (item_with own) o) ≡ Some row
    → (row.worths ≡ own) × (e : EntryView) × (o ≡ Some e)
entry-worths own None row is = absurd (none-some row is)
entry-worths own (Some e) row is = (row-worths e.block is, e, refl)
  where
    row-worths : (block : Option Block) → row_in (item_of own e.file e.number block) ≡ Some row → row.worths ≡ own
    row-worths None is = absurd (none-some row is)
    row-worths (Some block) is = ap (λ (v : Valued). v.worths) (sym (same_Some _ row is))

pub has-worths : (width : ℕ) (ws : List ℤ) (es : List EntryView) → length ws ≡ length es * width → (position : ℕ) (row : Valued)
    → row_of (items_of width ws es) position ≡ Some row
    → (row.worths ≡ take width (drop (position * width) ws)) × (position * width + width ≤ length ws)
has-worths width ws es whole position row is =
    let found = entry-worths (take width (drop (position * width) ws)) (slice_get es position) row
    (sym (ap (option_and_then row_in) (item_at width ws es position)) ∙ is) in
    let room = own_within position (length es) width (slice_get_within es position found.1 found.2) in
    (found.0, omega (arith, room, whole))

-- once no list is to come
pub all-zipped : (lists : List (List Item)) (rest : List PackedView) (all : List PackedWorths)
    → ((more : List PackedWorths) → AllZip HasWorths (items_in rest) more → AllZip HasWorths lists (all ++ more)) → length rest ≡ 0
    → AllZip HasWorths lists all
all-zipped lists [] all come none = subst (λ (ws : List PackedWorths). AllZip HasWorths lists ws) (append-nil all) (come [] tt)
all-zipped lists (x ∷ rest) all come none = absurd (omega (arith, none))

zip-at : (lists : List (List Item)) (worths : List PackedWorths) → AllZip HasWorths lists worths → (i : ℕ) (items : List Item)
    → slice_get lists i ≡ Some items → (list : PackedWorths) × (slice_get worths i ≡ Some list) × HasWorths items list
zip-at [] worths zip i items at = absurd (none-some items at)
zip-at (x ∷ lists) [] zip i items at = absurd zip
zip-at (x ∷ lists) (w ∷ worths) zip zero items at =
    (w, refl, subst (λ (xs : List Item). HasWorths xs w) (same_Some x items at) zip.0)
zip-at (x ∷ lists) (w ∷ worths) zip (suc i) items at = zip-at lists worths zip.1 i items at

-- the list and the row of a spot
item_ref-row : (lists : List (List Item)) (o : Option (List Item)) (p : ℕ) → is_some (option_and_then (λ items. row_of items p) o) ≡ true
    → (items : List Item) × (row : Valued) × (o ≡ Some items) × (row_of items p ≡ Some row)
item_ref-row lists None p is = absurd (false≢true is)
item_ref-row lists (Some items) p is = let row = some-row (row_of items p) is in (items, row.0, refl, row.1)
  where
    some-row : (r : Option Valued) → is_some r ≡ true → (row : Valued) × (r ≡ Some row)
    some-row None e = absurd (false≢true e)
    some-row (Some row) e = (row, refl)

module _ (lists : List (List Item)) (worths : List PackedWorths) (zip : AllZip HasWorths lists worths) where
  at-item_ref : (s : ItemRefView) → HasRow lists s → (row : Valued) × (row_on lists s ≡ Some row) × (own_on worths s ≡ row.worths) × HasOwn worths s
  at-item_ref s has =
      let found = item_ref-row lists (slice_get lists s.list) s.position has in
      let list = zip-at lists worths zip s.list found.0 found.2 in
      let own = list.2 s.position found.1 found.3 in (
        found.1,
        ap (option_and_then (λ items. row_of items s.position)) found.2 ∙ found.3,
        ap (λ o. unwrap_or (option_map (λ (l : PackedWorths). own_at l s.position) o) []) list.1 ∙ sym own.0,
        (list.0, list.1, own.1),
      )

  pub own-all : (item_refs : List ItemRefView) → All (HasRow lists) item_refs → All (HasOwn worths) item_refs
  own-all [] all = All-nil (HasOwn worths)
  own-all (s ∷ item_refs) all =
      All-cons (HasOwn worths) s item_refs (at-item_ref s (all 0 s (omega arith))).3 (own-all item_refs (All-tail (HasRow lists) s item_refs all))

  pub same-worths : (item_refs : List ItemRefView) → All (HasRow lists) item_refs
      → map (own_on worths) item_refs ≡ map (λ (row : Valued). row.worths) (filter_map (row_on lists) item_refs)
  same-worths [] all = refl
  same-worths (s ∷ item_refs) all =
      let here = at-item_ref s (all 0 s (omega arith)) in
      ap (λ own. own ∷ map (own_on worths) item_refs) here.2
      ∙ ap (λ rest. here.0.worths ∷ rest) (same-worths item_refs (All-tail (HasRow lists) s item_refs all))
      ∙ sym (ap (λ o. map (λ (row : Valued). row.worths) (cons_option o (filter_map (row_on lists) item_refs))) here.1)
