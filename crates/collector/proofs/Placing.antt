-- The positions of rows, after another one was stored at its place.
use Rattle.std.proofs.Common.{◌≡◌, ℕ, suc, zero, ◌+◌, ◌<◌, ◌≤◌, eqb, List, [], ◌∷◌, ◌++◌, length, get_or, take, Option, Some, None, refl, sym, ap, subst, ◌∙◌, ⊎_elim, arith}
use Rattle.std.specs.List.{All, flat_map, slice_get}
use Rattle.std.specs.Option.{option_and_then, option_map}
use Rattle.std.proofs.lemmas.Bool.{cond-true, cond-false, cases_eq, eq-eqb}
use Rattle.std.proofs.lemmas.List.{length-map, take_more}
use Rattle.std.proofs.lemmas.List.Elements.{All-append, All-cons, All-nil, All-tail}
use Rattle.std.proofs.lemmas.Option.{get_or_from_slice_get, none-some, same_Some, slice_get-get_or, slice_get-map, slice_get_within}
use Rattle.collector.specs.Complete.{Fits}
use Rattle.collector.specs.inner.Places.{item_refs_in, IsStored, IsStoredAs, IsPlaced, AreFew}
use Rattle.collector.specs.inner.WithAt.{with_at}
use Rattle.collector.proofs.Slots.{eqb-other}
use Rattle.collector.proofs.WithAt.{get-kept, get-store, length-store}
use Rattle.rows.specs.ItemsView.{items_in, PackedView}
use Rattle.rows.specs.Packed.{key_of, row_in, row_of, row_on}
use Rattle.rows.specs.declared.item.Item.{Item}
use Rattle.rows.specs.declared.item.Item.TheVariants.{Row, End}
use Rattle.rows.specs.declared.item.Valued.{Valued}
use Rattle.rows.specs.declared.item_key.ItemKey.{ItemKey}
use Rattle.rows.specs.ItemRefView.{ItemRefView}

-- the row at a position that is found
pub item_ref-found : (lists : List (List Item)) (o : Option ItemRefView) (w : Valued) → option_and_then (row_on lists) o ≡ Some w
    → (s : ItemRefView) × (o ≡ Some s) × (row_on lists s ≡ Some w)
item_ref-found lists None w e = absurd (none-some w e)
item_ref-found lists (Some s) w e = (s, refl, e)

-- another row is stored at its place
module _ (lists : List (List Item)) (old new : List (List ItemRefView)) (file place : ℕ) (s : ItemRefView) (store : IsStored file place s old new) where
  own : item_refs_in new file ≡ with_at (item_refs_in old file) place s
  own = store file ∙ cond-true (eqb file file) _ _ (eq-eqb file file refl)

  other-file : (f : ℕ) → (file ≡ f → ⊥) → item_refs_in new f ≡ item_refs_in old f
  other-file f differs = store f ∙ cond-false (eqb file f) _ _ (eqb-other file f differs)

  abbrev pub found : (f p : ℕ) → Type 0
  found f p = (w : Valued) × (option_and_then (row_on lists) (slice_get (item_refs_in new f) p) ≡ Some w) × (w.file ≡ f) × (w.place ≡ p)

  pub store-placed : (v : Valued) → row_on lists s ≡ Some v → v.file ≡ file → v.place ≡ place → found file place
  store-placed v at f p = (
    v,
    ap (λ xs. option_and_then (row_on lists) (slice_get xs place)) own
        ∙ ap (option_and_then (row_on lists)) (get-store (item_refs_in old file) place s) ∙ at,
    f,
    p,
  )

  pub store-kept : (v : Valued) → row_on lists s ≡ Some v → v.file ≡ file → v.place ≡ place → (item : Item)
      → IsPlaced lists old item → IsPlaced lists new item
  store-kept v at f p (End n count) was = tt
  store-kept v at f p (Row u) was =
      let there = item_ref-found lists (slice_get (item_refs_in old u.file) u.place) was.0 was.1 in
      let within = slice_get_within (item_refs_in old u.file) u.place there.0 there.1 in
      ⊎_elim (λ same. ⊎_elim (λ here.
      subst (λ (k : ℕ). found k u.place) same (subst (λ (k : ℕ). found file k) here (store-placed v at f p)))
      (λ elsewhere. (
        was.0,
        ap (λ xs. option_and_then (row_on lists) (slice_get xs u.place))
            (ap (item_refs_in new) (sym same) ∙ own ∙ ap (λ k. with_at (item_refs_in old k) place s) same)
            ∙ ap (option_and_then (row_on lists))
            (get-kept (item_refs_in old u.file) place u.place s (λ e. elsewhere (sym e)) within)
            ∙ was.1,
        was.2,
        was.3,
      ))
      (cases_eq place u.place))
      (λ differs. (
        was.0,
        ap (λ xs. option_and_then (row_on lists) (slice_get xs u.place)) (other-file u.file differs) ∙ was.1,
        was.2,
        was.3,
      ))
      (cases_eq file u.file)

  pub store-few : (counts : ℕ → ℕ) → place < counts file → AreFew counts old → AreFew counts new
  store-few counts below few f =
      ⊎_elim (λ same. subst (λ (k : ℕ). length (item_refs_in new k) ≤ counts k) same
      (subst (λ (xs : List ItemRefView). length xs ≤ counts file) (sym own)
      (length-store (item_refs_in old file) place (counts file) s (few file) below)))
      (λ differs. subst (λ (xs : List ItemRefView). length xs ≤ counts f) (sym (other-file f differs)) (few f))
      (cases_eq file f)

-- the item of a mark
pub item_of_key : (o : Option Item) (m : ItemKey) → option_map key_of o ≡ Some m → (item : Item) × (o ≡ Some item) × (key_of item ≡ m)
item_of_key None m e = absurd (none-some m e)
item_of_key (Some item) m e = (item, refl, same_Some (key_of item) m e)

pub items-long : (lists : List PackedView) → length (items_in lists) ≡ length lists
items-long lists = length-map lists (λ (list : PackedView). list.items)

-- a list that was read
pub read-list : (lists : List PackedView) (l : ℕ) (list : PackedView) → l < length lists → list ≡ get_or lists l list
    → list.items ≡ get_or (items_in lists) l []
read-list lists l list within is =
    let there : slice_get lists l ≡ Some list = slice_get-get_or lists l list within ∙ ap Some (sym is) in
    sym (get_or_from_slice_get (items_in lists) l list.items []
    (slice_get-map (λ (list : PackedView). list.items) lists l ∙ ap (option_map (λ (list : PackedView). list.items)) there))

-- the row at a position of one of the lists
pub on-list : (lists : List (List Item)) (l p : ℕ) (s : ItemRefView) (item : Item) → s.list ≡ l → s.position ≡ p → l < length lists
    → slice_get (get_or lists l []) p ≡ Some item → row_on lists s ≡ row_in item
on-list lists l p s item is_list is_position within at =
    (λ j. option_and_then (λ items. row_of items (is_position j)) (slice_get lists (is_list j)))
    ∙ ap (option_and_then (λ items. row_of items p)) (slice_get-get_or lists l [] within)
    ∙ ap (option_and_then row_in) at

-- the item is stored as it is marked
module _ (lists : List (List Item)) (old new : List (List ItemRefView)) (s : ItemRefView) where
  pub item-placed : (item : Item) → row_on lists s ≡ row_in item → IsStoredAs (key_of item) s old new → IsPlaced lists new item
  item-placed (Row v) at store = store-placed lists old new v.file v.place s store v at refl refl
  item-placed (End f n) at store = tt

  pub item-kept : (item : Item) → row_on lists s ≡ row_in item → IsStoredAs (key_of item) s old new → (other : Item)
      → IsPlaced lists old other → IsPlaced lists new other
  item-kept (Row v) at store other was = store-kept lists old new v.file v.place s store v at refl refl other was
  item-kept (End f n) at store (End g m) was = tt
  item-kept (End f n) at store (Row u) was =
      (was.0, ap (λ xs. option_and_then (row_on lists) (slice_get xs u.place)) (store u.file) ∙ was.1, was.2, was.3)

  pub item-few : (files : ℕ) (counts : ℕ → ℕ) (item : Item) → Fits files counts item → IsStoredAs (key_of item) s old new
      → AreFew counts old → AreFew counts new
  item-few files counts (Row v) fits store few = store-few lists old new v.file v.place s store counts fits.1 few
  item-few files counts (End f n) fits store few = λ file. subst (λ (xs : List ItemRefView). length xs ≤ counts file) (sym (store file)) (few file)

-- the next item of a list
pub all-next : (P : Item → Type 0) (items : List Item) (i : ℕ) (item : Item) → slice_get items i ≡ Some item → P item → All P (take i items)
    → All P (take (i + 1) items)
all-next P items i item at is all =
    subst (λ (xs : List Item). All P xs)
    (ap (λ x. take i items ++ x ∷ []) (sym (get_or_from_slice_get items i item item at))
    ∙ sym (take_more items i item (slice_get_within items i item at)))
    (All-append P (take i items) (item ∷ []) all (All-cons P item [] is (All-nil P)))

All-parts : (P : Item → Type 0) (xs ys : List Item) → All P (xs ++ ys) → All P xs × All P ys
All-parts P [] ys all = (All-nil P, all)
All-parts P (x ∷ xs) ys all =
    let rest = All-parts P xs ys (All-tail P x (xs ++ ys) all) in (All-cons P x xs (all 0 x (omega arith)) rest.0, rest.1)

-- a property of all items of several lists is a property of each list's items
pub all-of-list : (P : Item → Type 0) (lists : List (List Item)) (i : ℕ) → All P (flat_map (λ list. list) lists) → i < length lists
    → All P (get_or lists i [])
all-of-list P [] i all within = absurd (omega (arith, within))
all-of-list P (list ∷ lists) zero all within = (All-parts P list (flat_map (λ l. l) lists) all).0
all-of-list P (list ∷ lists) (suc i) all within =
    all-of-list P lists i (All-parts P list (flat_map (λ l. l) lists) all).1 (omega (arith, within))

pub all-lists : (P : Item → Type 0) (lists : List (List Item)) → ((i : ℕ) → i < length lists → All P (get_or lists i []))
    → All P (flat_map (λ list. list) lists)
all-lists P [] each = All-nil P
all-lists P (list ∷ lists) each =
    All-append P list (flat_map (λ l. l) lists) (each 0 (omega arith)) (all-lists P lists (λ i within. each (suc i) (omega (arith, within))))
