-- The stored rows, file after file, are the rows of a complete list of items.
use Rattle.std.proofs.Common.{◌≡◌, ℕ, suc, zero, ◌-◌, ◌<◌, ◌≤◌, Bool, true, ◌&&◌, eqb, is_some, List, [], ◌∷◌, ◌++◌, length, map, replicate, take, Option, Some, None, refl, sym, ap, subst, ◌∙◌, ⊎_elim, arith}
use Rattle.std.specs.List.{All, Contains, count_by, filter_map, flat_map, slice_get}
use Rattle.std.specs.Option.{option_and_then}
use Rattle.std.proofs.lemmas.Bool.{cases_Bool, cases_lt, cond-true, cond-false, eq-eqb}
use Rattle.std.proofs.lemmas.List.{length-map, length-replicate, take-append-le, take_all}
use Rattle.std.proofs.lemmas.List.Elements.{Contains-append_left, Contains-append_right, filter_map-append, All-append, All-contains, All-nil, recursion_from_All}
use Rattle.std.proofs.lemmas.Option.{get_or_from_slice_get, none-some, same_Some, slice_get_past, slice_get_within}
use Rattle.collector.specs.Complete.{Fits, IsComplete}
use Rattle.collector.specs.Found.{is_row_at, row_at, end_at}
use Rattle.collector.specs.Lists.{AreRows}
use Rattle.collector.specs.inner.Places.{item_refs_in, IsPlaced, AreFew}
use Rattle.collector.proofs.Complete.{counted-no, counted-yes, end-fits, is_full, row-held, some-value}
use Rattle.collector.proofs.Placing.{item_ref-found}
use Rattle.rows.specs.Packed.{row_in, row_of, row_on, HasRow}
use Rattle.rows.specs.declared.item.Item.{Item}
use Rattle.rows.specs.declared.item.Item.TheVariants.{Row, End}
use Rattle.rows.specs.declared.item.Valued.{Valued}
use Rattle.rows.specs.ItemRefView.{ItemRefView}
use Rattle.rows.proofs.Found.{all_found, found_at}

found-joined : {A B : Type 0} (f : A → Option B) (lists : List (List A)) →
    filter_map f (flat_map (λ l. l) lists) ≡ flat_map (λ l. l) (map (filter_map f) lists)
found-joined f [] = refl
found-joined f (list ∷ lists) =
    filter_map-append f list (flat_map (λ l. l) lists) ∙ ap (λ xs. filter_map f list ++ xs) (found-joined f lists)

-- a row anywhere in the lists is one of their items
in-list : (items : List Item) (p : ℕ) (v : Valued) → row_of items p ≡ Some v → Contains items (Row v)
in-list [] p v e = absurd (none-some v e)
in-list (Row w ∷ items) zero v e = (0, omega arith, ap Row (same_Some w v e))
in-list (End f n ∷ items) zero v e = absurd (none-some v e)
in-list (item ∷ items) (suc p) v e = let h = in-list items p v e in (suc h.0, omega (arith, h.1), h.2)

on-held : (lists : List (List Item)) (l p : ℕ) (v : Valued) → option_and_then (λ items. row_of items p) (slice_get lists l) ≡ Some v →
    Contains (flat_map (λ list. list) lists) (Row v)
on-held [] l p v e = absurd (none-some v e)
on-held (list ∷ lists) zero p v e = Contains-append_left list (flat_map (λ l. l) lists) (Row v) (in-list list p v e)
on-held (list ∷ lists) (suc l) p v e = Contains-append_right list (flat_map (λ l. l) lists) (Row v) (on-held lists l p v e)

-- an item that is counted once appears once
some-counted : (p : Item → Bool) (items : List Item) (x : Item) → Contains items x → p x ≡ true → 1 ≤ count_by p items
some-counted p [] x h passes = absurd (omega (arith, h.1))
some-counted p (y ∷ items) x (zero, h, e) passes = let more = counted-yes p y items (ap p e ∙ passes) in omega arith
some-counted p (y ∷ items) x (suc k, h, e) passes =
    let rest = some-counted p items x (k, omega (arith, h), e) passes in
    ⊎_elim (λ yes. let more = counted-yes p y items yes in omega arith)
    (λ no. let same = counted-no p y items no in omega arith)
    (cases_Bool (p y))

only-row : (items : List Item) (file place : ℕ) (w : Valued) → count_by (is_row_at file place) items ≡ 1 → Contains items (Row w)
    → (eqb w.file file && eqb w.place place) ≡ true → row_at file place items ≡ Some w
only-row [] file place w once h own = absurd (omega (arith, h.1))
only-row (End f n ∷ items) file place w once (zero, h, e) own = absurd (cc e)
only-row (End f n ∷ items) file place w once (suc k, h, e) own =
    only-row items file place w (sym (counted-no (is_row_at file place) (End f n) items refl) ∙ once) (k, omega (arith, h), e) own
only-row (Row v ∷ items) file place w once (zero, h, e) own =
    let passes : is_row_at file place (Row v) ≡ true = ap (is_row_at file place) e ∙ own in
    cond-true _ (Some v) (row_at file place items) passes ∙ row-same (Row v) (Row w) e
  where
    row-same : (a b : Item) → a ≡ b → row_in a ≡ row_in b
    row-same a b e = ap row_in e
only-row (Row v ∷ items) file place w once (suc k, h, e) own =
    let held : Contains items (Row w) = (k, omega (arith, h), e) in
    ⊎_elim (λ yes.
    let more = counted-yes (is_row_at file place) (Row v) items yes in
    let again = some-counted (is_row_at file place) items (Row w) held own in
    absurd (omega arith))
    (λ no. cond-false _ (Some v) (row_at file place items) no
    ∙ only-row items file place w (sym (counted-no (is_row_at file place) (Row v) items no) ∙ once) held own)
    (cases_Bool (eqb v.file file && eqb v.place place))

-- the list of a file
list-at : {B : Type 0} (f : List ItemRefView → List B) (places : List (List ItemRefView)) (file : ℕ) (rows : List B) →
    slice_get (map f places) file ≡ Some rows → (file < length places) × (f (item_refs_in places file) ≡ rows)
list-at f [] file rows got = absurd (none-some rows got)
list-at f (s ∷ places) zero rows got = (omega arith, same_Some (f s) rows got)
list-at f (s ∷ places) (suc file) rows got = let h = list-at f places file rows got in (omega (arith, h.0), h.1)

all-files : (P : ItemRefView → Type 0) (places : List (List ItemRefView)) → ((file : ℕ) → file < length places → All P (item_refs_in places file)) →
    All P (flat_map (λ item_refs. item_refs) places)
all-files P [] each = All-nil P
all-files P (item_refs ∷ places) each =
    All-append P item_refs (flat_map (λ s. s) places) (each 0 (omega arith)) (all-files P places (λ file within. each (suc file) (omega arith)))

prefix-all : {A : Type 0} (n : ℕ) (xs ys : List A) → n ≡ length xs → take n (xs ++ ys) ≡ xs
prefix-all n xs ys long = take-append-le n xs ys (omega arith) ∙ take_all n xs (omega arith)

-- no file has a place yet
none-yet : (counts : ℕ → ℕ) (n : ℕ) → AreFew counts (replicate n [])
none-yet counts zero file = omega arith
none-yet counts (suc n) zero = omega arith
none-yet counts (suc n) (suc file) = none-yet (λ f. counts (suc f)) n file

-- if all rows of a complete list were stored at their places
module _ (files : ℕ) (lists : List (List Item)) (places : List (List ItemRefView)) (whole : IsComplete files (flat_map (λ list. list) lists))
    (many : length places ≡ files) (placed : All (IsPlaced lists places) (flat_map (λ list. list) lists)) (few : AreFew whole.counts places) where
  abbrev pub items : List Item
  items = flat_map (λ list. list) lists

  ends-with : (file : ℕ) → file < files → end_at file items ≡ Some (whole.counts file)
  ends-with file within =
      let full = is_full files items file whole within in
      full.1 ∙ ap Some (end-fits files whole.counts file full.0 items (recursion_from_All (Fits files whole.counts) items whole.others) full.1)

  row-there : (file place : ℕ) → file < files → place < whole.counts file → (v : Valued) × (row_at file place items ≡ Some v)
  row-there file place within below =
      let full = is_full files items file whole within in
      let same = same_Some full.0 (whole.counts file) (sym full.1 ∙ ends-with file within) in
      some-value (row_at file place items) (full.2 place (omega arith))

  at-place : (file place : ℕ) → file < files → place < whole.counts file →
      (s : ItemRefView) × (slice_get (item_refs_in places file) place ≡ Some s) × (row_on lists s ≡ row_at file place items)
  at-place file place within below =
      let v = row-there file place within below in
      let held = row-held items file place v.0 v.1 in
      let stands = All-contains (IsPlaced lists places) items (Row v.0) placed held.2 in
      let at = ap (λ p. option_and_then (row_on lists) (slice_get (item_refs_in places file) p)) (sym held.1)
      ∙ ap (λ f. option_and_then (row_on lists) (slice_get (item_refs_in places f) v.0.place)) (sym held.0) ∙ stands.1 in
      let there = item_ref-found lists (slice_get (item_refs_in places file) place) stands.0 at in
      let own : (eqb stands.0.file file && eqb stands.0.place place) ≡ true
      = rw (eq-eqb stands.0.file file (stands.2 ∙ held.0), eq-eqb stands.0.place place (stands.3 ∙ held.1)) refl in (
        there.0,
        there.1,
        there.2 ∙ sym (only-row items file place stands.0 (whole.rows file place within below)
            (on-held lists there.0.list there.0.position stands.0 there.2) own),
      )

  as-many : (file : ℕ) → file < files → length (item_refs_in places file) ≡ whole.counts file
  as-many file within =
      ⊎_elim (λ some.
      let last : ℕ = whole.counts file - 1 in
      let at = at-place file last within (omega (arith, some)) in
      let there = slice_get_within (item_refs_in places file) last at.0 at.1 in
      omega (arith, few file, there))
      (λ none. omega (arith, few file, none))
      (cases_lt 0 (whole.counts file))

  rows-there : (file : ℕ) → file < files → All (HasRow lists) (item_refs_in places file)
  rows-there file within = λ k d lt.
      let below : k < whole.counts file = omega (arith, lt, as-many file within) in
      let at = at-place file k within below in
      ap (λ s. is_some (row_on lists s)) (get_or_from_slice_get (item_refs_in places file) k at.0 d at.1)
      ∙ ap is_some (at.2 ∙ (row-there file k within below).1)

  none-past : (file place : ℕ) → whole.counts file ≤ place → (o : Option Valued) → row_at file place items ≡ o → None ≡ o
  none-past file place past None e = refl
  none-past file place past (Some v) e =
      let held = row-held items file place v e in
      let fits = All-contains (Fits files whole.counts) items (Row v) whole.others held.2 in
      let below : place < whole.counts file
      = subst (λ (f : ℕ). place < whole.counts f) held.0 (subst (λ (p : ℕ). p < whole.counts v.file) held.1 fits.1) in
      absurd (omega arith)

  place-of : (file place : ℕ) → file < files →
      slice_get (filter_map (row_on lists) (item_refs_in places file)) place ≡ row_at file place items
  place-of file place within =
      found_at (row_on lists) (item_refs_in places file) place (rows-there file within)
      ∙ ⊎_elim (λ below. let at = at-place file place within below in ap (option_and_then (row_on lists)) at.1 ∙ at.2)
      (λ past. ap (option_and_then (row_on lists))
      (slice_get_past (item_refs_in places file) place (let same = as-many file within in omega arith))
      ∙ none-past file place past (row_at file place items) refl)
      (cases_lt place (whole.counts file))

  all-there : All (HasRow lists) (flat_map (λ item_refs. item_refs) places)
  all-there = all-files (HasRow lists) places (λ file within. rows-there file (omega (arith, many)))

  are-rows : (rows : List Valued) → rows ≡ filter_map (row_on lists) (flat_map (λ item_refs. item_refs) places) → AreRows files items rows
  are-rows rows is = (
    map (filter_map (row_on lists)) places,
    record {
      count = length-map places (filter_map (row_on lists)) ∙ many;
      ends = λ file of_file got.
          let at = list-at (filter_map (row_on lists)) places file of_file got in
          let within : file < files = omega (arith, at.0, many) in
          ends-with file within ∙ ap Some (sym (as-many file within)
          ∙ sym (all_found (row_on lists) (item_refs_in places file) (rows-there file within)) ∙ ap length at.1);
      rows = λ file place of_file got.
          let at = list-at (filter_map (row_on lists)) places file of_file got in
          let within : file < files = omega (arith, at.0, many) in
          ap (λ xs. slice_get xs place) (sym at.1) ∙ place-of file place within;
    },
    is ∙ found-joined (row_on lists) places,
  )

-- if they were stored in empty lists of places, and the places, borrowed as a prefix, yield the positions of all files
pub in-order : (files : ℕ) (lists : List (List Item)) (begun places rest : List (List ItemRefView)) (n : ℕ) (item_refs : List ItemRefView)
    (whole : IsComplete files (flat_map (λ list. list) lists)) → begun ≡ replicate files [] → length places ≡ length begun
    → All (IsPlaced lists places) (flat_map (λ list. list) lists)
    → ((counts : ℕ → ℕ) → All (Fits files counts) (flat_map (λ list. list) lists) → AreFew counts begun → AreFew counts places)
    → n ≡ length places → item_refs ≡ flat_map (λ of_file. of_file) (take n (places ++ rest))
    → All (HasRow lists) item_refs × AreRows files (flat_map (λ list. list) lists) (filter_map (row_on lists) item_refs)
in-order files lists begun places rest n item_refs whole none count placed kept long borrowed =
    let many : length places ≡ files = count ∙ ap length none ∙ length-replicate files [] in
    let few : AreFew whole.counts places = kept whole.counts whole.others (rw none (none-yet whole.counts files)) in
    let laid : item_refs ≡ flat_map (λ of_file. of_file) places
    = borrowed ∙ ap (λ (ps : List (List ItemRefView)). flat_map (λ of_file. of_file) ps) (prefix-all n places rest long) in (
      subst (λ (xs : List ItemRefView). All (HasRow lists) xs) (sym laid) (all-there files lists places whole many placed few),
      are-rows files lists places whole many placed few (filter_map (row_on lists) item_refs) (ap (filter_map (row_on lists)) laid),
    )
