-- The lists that a collector hands over are the rows of what was sent.
use Rattle.std.proofs.Common.{◌≡◌, ℕ, suc, ◌<◌, ◌≤◌, List, [], ◌∷◌, length, map, get_or, Some, refl, sym, ap, ◌∙◌, arith}
use Rattle.std.specs.List.{All, Contains, flat_map, slice_get}
use Rattle.std.specs.Option.{option_map}
use Rattle.std.proofs.lemmas.List.{length-map}
use Rattle.std.proofs.lemmas.List.Elements.{All-contains}
use Rattle.std.proofs.lemmas.List.Folds.{flat_map-map}
use Rattle.std.proofs.lemmas.Option.{same_Some, slice_get_within, slice_get-get_or, slice_get-map}
use Rattle.collector.specs.Complete.{IsComplete}
use Rattle.collector.specs.Found.{row_at, end_at}
use Rattle.collector.specs.Lists.{AreLists, AreRows}
use Rattle.lane.specs.declared.message.Taken.{Taken}
use Rattle.lane.specs.MessageKinds.{row_count}
use Rattle.lane.specs.Whole.{GatheredView, IsWhole}
use Rattle.pit_compile.proofs.PassedOn.{IsOf, all_items, row-of, end-of, all-of, complete}
use Rattle.plan_parts.specs.declared.formulas.formula.Formula.{Formula}
use Rattle.valuers.specs.Valuing.{items_by, rows_by}
use Rattle.rows.specs.declared.item.Item.{Item}
use Rattle.rows.specs.declared.item.Item.TheVariants as item
use Rattle.rows.specs.declared.item.Valued.{Valued}

-- what is found of a file is one of the items
pub record FoundIsHeld : Type 0 where
  pub row : (items : List Item) (file place : ℕ) (v : Valued) → row_at file place items ≡ Some v →
      (v.file ≡ file) × (v.place ≡ place) × Contains items (item.Row v)
  pub end : (items : List Item) (file count : ℕ) → end_at file items ≡ Some count → Contains items (item.End file count)

-- lists of one length, where each element of the one stands in the other
same-lists : {A : Type 0} (xs ys : List A) → length xs ≡ length ys →
    ((k : ℕ) (x : A) → slice_get xs k ≡ Some x → slice_get ys k ≡ Some x) → xs ≡ ys
same-lists [] [] long each = refl
same-lists (x ∷ xs) (y ∷ ys) long each =
    ap (λ z. z ∷ xs) (sym (same_Some y x (each 0 x refl)))
    ∙ ap (λ zs. y ∷ zs) (same-lists xs ys (omega arith) (λ k z e. each (suc k) z e))
same-lists _ _ long each = absurd (omega arith)

-- the list of a file
file-list : (found : FoundIsHeld) (fs : List Formula) (sent : List (List Taken)) (items : List Item) (lists : List (List Valued)) →
    All (IsOf fs sent) items → AreLists (length sent) items lists → (file : ℕ) (rows : List Valued) → slice_get lists file ≡ Some rows →
    slice_get (map (rows_by fs) sent) file ≡ Some rows
file-list found fs sent items lists all are file rows at =
    let within_lists = slice_get_within lists file rows at in
    let within : file < length sent = omega (arith, are.count) in
    let list = get_or sent file [] in
    let got = slice_get-get_or sent file [] within in
    let long : length rows ≡ length (rows_by fs list)
    = end-of fs sent file list file (length rows) got refl
    (All-contains (IsOf fs sent) items (item.End file (length rows)) all (found.end items file (length rows) (are.ends file rows at))) in
    let each : (place : ℕ) (v : Valued) → slice_get rows place ≡ Some v → slice_get (rows_by fs list) place ≡ Some v
    = λ place v e. let held = found.row items file place v (sym (are.rows file place rows at) ∙ e) in
    sym (ap (slice_get (rows_by fs list)) held.1)
    ∙ row-of fs sent file list v got held.0 (All-contains (IsOf fs sent) items (item.Row v) all held.2) in
    slice_get-map (rows_by fs) sent file ∙ ap (option_map (rows_by fs)) got
    ∙ ap (λ l. Some l) (sym (same-lists rows (rows_by fs list) long each))

pub are-rows : (found : FoundIsHeld) (fs : List Formula) (sent : List (List Taken)) (items : List Item) (lists : List (List Valued)) →
    All (IsOf fs sent) items → AreLists (length sent) items lists → lists ≡ map (rows_by fs) sent
are-rows found fs sent items lists all are =
    same-lists lists (map (rows_by fs) sent) (are.count ∙ sym (length-map sent (rows_by fs)))
    (file-list found fs sent items lists all are)

-- what is handed on is complete
pub to-order : (fs : List Formula) (g : GatheredView) (items : List (List Item)) (files : ℕ) → IsWhole g →
    All (λ list. row_count list ≤ 1000000) g.sent → items ≡ map (items_by fs) g.took → length g.sent ≡ files →
    IsComplete files (all_items items)
to-order fs g items files whole few handed same = rw (handed, ← same) (complete fs g whole few)

-- the rows in order
pub collected : (found : FoundIsHeld) (fs : List Formula) (g : GatheredView) (items : List (List Item)) (files : ℕ) (rows : List Valued)
    → IsWhole g → items ≡ map (items_by fs) g.took → length g.sent ≡ files → AreRows files (all_items items) rows
    → rows ≡ flat_map (rows_by fs) g.sent
collected found fs g items files rows whole handed same are =
    let held : AreLists (length g.sent) (all_items (map (items_by fs) g.took)) are.0 = rw (same, ← handed) are.1 in
    are.2 ∙ ap (flat_map (λ list. list)) (are-rows found fs g.sent (all_items (map (items_by fs) g.took)) are.0 (all-of fs g whole) held)
    ∙ flat_map-map (λ (l : List Valued). l) (rows_by fs) g.sent
