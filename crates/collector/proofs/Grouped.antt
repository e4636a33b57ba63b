-- A collector stores the items, one after the other.
use Rattle.std.proofs.Common.{◌≡◌, ℕ, ◌+◌, ◌<◌, ◌≤◌, Bool, true, false, ◌&&◌, ◌||◌, cond, eqb, leb, ltb, is_some, List, [], ◌∷◌, ◌++◌, length, take, drop, Option, Some, None, refl, sym, ap, subst, ◌∙◌, ⊎_elim, arith}
use Rattle.std.proofs.lemmas.Bool.{cond-true, cond-false, ltb-false, leb-false, cases_Bool, cases_eq, eq-eqb, or_parts}
use Rattle.std.proofs.lemmas.Option.{none-some, same_Some}
use Rattle.std.proofs.lemmas.List.{append-nil, take_all, drop_all}
use Rattle.std.proofs.lemmas.Bool.Decides.{nat_tests}
use Rattle.std.proofs.Math.Bool.{or-false}
use Rattle.rows.specs.declared.item.Item.{Item}
use Rattle.rows.specs.declared.item.Item.TheVariants.{Row, End}
use Rattle.rows.specs.declared.item.Valued.{Valued}
use Rattle.collector.specs.inner.ItemsByFile.{slot, file_of, AreStored, AreItemsOfFile, AreGrouped}
use Rattle.collector.specs.Fault.{is_after, fault}
use Rattle.collector.specs.Found.{row_at, end_at, has_past}
use Rattle.collector.specs.inner.WithAt.{with_at}
use Rattle.collector.proofs.Slots.{eqb-other, slot-store, slot-kept}
use Rattle.collector.proofs.WithAt.{length-with_at}

-- with another item, the first look-up that finds something decides
pub row_at-push : (file place : ℕ) (held : List Item) (item : Item) →
    row_at file place (held ++ item ∷ []) ≡ cond (is_some (row_at file place held)) (row_at file place held) (row_at file place (item ∷ []))
row_at-push file place [] item = refl
row_at-push file place (End f n ∷ held) item = row_at-push file place held item
row_at-push file place (Row v ∷ held) item =
    ⊎_elim (λ yes. rw yes) (λ no. rw no (row_at-push file place held item)) (cases_Bool (eqb v.file file && eqb v.place place))

pub end_at-push : (file : ℕ) (held : List Item) (item : Item) →
    end_at file (held ++ item ∷ []) ≡ cond (is_some (end_at file held)) (end_at file held) (end_at file (item ∷ []))
end_at-push file [] item = refl
end_at-push file (Row v ∷ held) item = end_at-push file held item
end_at-push file (End f n ∷ held) item =
    ⊎_elim (λ yes. rw yes) (λ no. rw no (end_at-push file held item)) (cases_Bool (eqb f file))

pub has_past-push : (file place : ℕ) (held : List Item) (item : Item) →
    has_past file place (held ++ item ∷ []) ≡ (has_past file place held || has_past file place (item ∷ []))
has_past-push file place [] item = refl
has_past-push file place (End f n ∷ held) item = has_past-push file place held item
has_past-push file place (Row v ∷ held) item =
    ⊎_elim (λ yes. rw yes) (λ no. rw no (has_past-push file place held item)) (cases_Bool (eqb v.file file && leb place v.place))

-- a look-up that finds something keeps its result; any other has the result for the last item
else-none : {A : Type 0} (o : Option A) → cond (is_some o) o None ≡ o
else-none None = refl
else-none (Some x) = refl

else-first : {A : Type 0} (o p : Option A) → is_some o ≡ false → cond (is_some o) o p ≡ p
else-first o p none = cond-false (is_some o) o p none

no-fault : {A : Type 0} (a b c : Bool) (x y z : A) → cond a (Some x) (cond b (Some y) (cond c (Some z) None)) ≡ None →
    (a ≡ false) × (b ≡ false) × (c ≡ false)
no-fault true b c x y z e = absurd (none-some x (sym e))
no-fault false true c x y z e = absurd (none-some y (sym e))
no-fault false false true x y z e = absurd (none-some z (sym e))
no-fault false false false x y z e = (refl, refl, refl)

below-count : (end : Option ℕ) (place count : ℕ) → is_after end place ≡ false → end ≡ Some count → place < count
below-count None place count before e = absurd (none-some count e)
below-count (Some n) place count before e = let same = same_Some n count e in omega (arith, leb-false n place before)

-- the last place, after another row
past-more : (rows : List Valued) (v : Valued) (place : ℕ) →
    (ltb place (length rows) || leb place v.place) ≡ ltb place (length (with_at rows v.place v))
past-more rows v place =
    ⊎_elim (λ h. rw h.1 (later rows v place h.0)) (λ h. rw h.1 (last rows v place h.0)) (length-with_at rows v.place v)
  where
    later : (rows : List Valued) (v : Valued) (place : ℕ) → v.place < length rows
        → (ltb place (length rows) || leb place v.place) ≡ ltb place (length rows)
    later rows v place within = grind (arith, nat_tests)

    last : (rows : List Valued) (v : Valued) (place : ℕ) → length rows ≤ v.place
        → (ltb place (length rows) || leb place v.place) ≡ ltb place (v.place + 1)
    last rows v place past = grind (arith, nat_tests)

found : (v : Valued) (file place : ℕ) → v.file ≡ file → v.place ≡ place → row_at file place (Row v ∷ []) ≡ Some v
found v file place same here = rw (eq-eqb v.file file same, eq-eqb v.place place here)

not_found : (v : Valued) (file place : ℕ) → v.file ≡ file → (v.place ≡ place → ⊥) → row_at file place (Row v ∷ []) ≡ None
not_found v file place same differs = rw (eq-eqb v.file file same, eqb-other v.place place differs)

-- another row of its file
items_of_file-row : (held : List Item) (file : ℕ) (rows : List Valued) (end : Option ℕ) (v : Valued) → AreItemsOfFile held file rows end →
    v.file ≡ file → is_some (row_at file v.place held) ≡ false → v.place < 1000000 → is_after end v.place ≡ false →
    AreItemsOfFile (held ++ Row v ∷ []) file (with_at rows v.place v) end
items_of_file-row held file rows end v kept same single in_places before = record {
  row = λ place. row_at-push file place held (Row v)
      ∙ ⊎_elim
      (λ here. else-first _ _ (subst (λ (p : ℕ). is_some (row_at file p held) ≡ false) here single)
      ∙ found v file place same here
      ∙ sym (subst (λ (p : ℕ). slot (with_at rows v.place v) p ≡ Some v) here (slot-store rows v)))
      (λ differs. ap (λ o. cond (is_some (row_at file place held)) (row_at file place held) o)
      (not_found v file place same differs)
      ∙ else-none (row_at file place held) ∙ kept.row place ∙ sym (slot-kept rows v place differs))
      (cases_eq v.place place);
  ended = end_at-push file held (Row v) ∙ else-none (end_at file held) ∙ kept.ended;
  past = λ place. has_past-push file place held (Row v)
      ∙ rw (kept.past place, eq-eqb v.file file same, or-false (leb place v.place)) (past-more rows v place);
  few = ⊎_elim (λ h. let most = kept.few in omega (arith, h.1)) (λ h. omega (arith, h.1)) (length-with_at rows v.place v);
  closed = λ count e.
      let above = below-count end v.place count before e in
      let most = kept.closed count e in
      ⊎_elim (λ h. omega (arith, h.1)) (λ h. omega (arith, h.1)) (length-with_at rows v.place v);
}

-- another end mark
items_of_file-end : (held : List Item) (file f count : ℕ) (rows : List Valued) (end : Option ℕ) → AreItemsOfFile held file rows end →
    f ≡ file → is_some (end_at file held) ≡ false → has_past file count held ≡ false →
    AreItemsOfFile (held ++ End f count ∷ []) file rows (Some count)
items_of_file-end held file f count rows end kept same single above = record {
  row = λ place. row_at-push file place held (End f count) ∙ else-none (row_at file place held) ∙ kept.row place;
  ended = end_at-push file held (End f count) ∙ else-first _ _ single ∙ cond-true _ _ _ (eq-eqb f file same);
  past = λ place. has_past-push file place held (End f count) ∙ or-false (has_past file place held) ∙ kept.past place;
  few = kept.few;
  closed = λ n e. let is_count = same_Some count n e in
      let most = ltb-false count (length rows) (sym (kept.past count) ∙ above) in omega arith;
}

-- an item of another file
items_of_file-other : (held : List Item) (file : ℕ) (rows : List Valued) (end : Option ℕ) (item : Item) → AreItemsOfFile held file rows end →
    (file_of item ≡ file → ⊥) → AreItemsOfFile (held ++ item ∷ []) file rows end
items_of_file-other held file rows end (Row v) kept differs = record {
  row = λ place. row_at-push file place held (Row v)
      ∙ rw (eqb-other v.file file differs) (else-none (row_at file place held) ∙ kept.row place);
  ended = end_at-push file held (Row v) ∙ else-none (end_at file held) ∙ kept.ended;
  past = λ place. has_past-push file place held (Row v)
      ∙ rw (eqb-other v.file file differs) (or-false (has_past file place held) ∙ kept.past place);
  few = kept.few;
  closed = kept.closed;
}
items_of_file-other held file rows end (End f count) kept differs = record {
  row = λ place. row_at-push file place held (End f count) ∙ else-none (row_at file place held) ∙ kept.row place;
  ended = end_at-push file held (End f count) ∙ rw (eqb-other f file differs) (else-none (end_at file held) ∙ kept.ended);
  past = λ place. has_past-push file place held (End f count) ∙ or-false (has_past file place held) ∙ kept.past place;
  few = kept.few;
  closed = kept.closed;
}

-- another item without a fault
pub grouped_more : (files : ℕ) (held : List Item) (rows rows' : ℕ → List Valued) (ends ends' : ℕ → Option ℕ) (item : Item) →
    AreGrouped files held rows ends → fault files held item ≡ None → AreStored item rows ends rows' ends' →
    AreGrouped files (held ++ item ∷ []) rows' ends'
grouped_more files held rows rows' ends ends' (Row v) kept sound store =
    let clear = no-fault (is_some (row_at v.file v.place held)) (leb files v.file || leb 1000000 v.place)
    (is_after (end_at v.file held) v.place) _ _ _ sound in
    let inside = or_parts (leb files v.file) (leb 1000000 v.place) clear.1 in
    let in_files : v.file < files = leb-false files v.file inside.0 in
    let in_places : v.place < 1000000 = leb-false 1000000 v.place inside.1 in
    let here : (file : ℕ) → v.file ≡ file → rows' file ≡ with_at (rows file) v.place v
    = λ file e. store.0 file ∙ cond-true (eqb v.file file) _ _ (eq-eqb v.file file e) in
    let elsewhere : (file : ℕ) → (v.file ≡ file → ⊥) → rows' file ≡ rows file
    = λ file differs. store.0 file ∙ cond-false (eqb v.file file) _ _ (eqb-other v.file file differs) in
    record {
      outside = λ file past. elsewhere file (λ e. omega arith) ∙ kept.outside file past;
      items_of_file = λ file. ⊎_elim
          (λ same. rw (here file same, store.1 file)
          (items_of_file-row held file (rows file) (ends file) v (kept.items_of_file file) same
          (subst (λ (f : ℕ). is_some (row_at f v.place held) ≡ false) same clear.0) in_places
          (ap (λ o. is_after o v.place) (sym (kept.items_of_file file).ended)
          ∙ subst (λ (f : ℕ). is_after (end_at f held) v.place ≡ false) same clear.2)))
          (λ differs. rw (elsewhere file differs, store.1 file)
          (items_of_file-other held file (rows file) (ends file) (Row v) (kept.items_of_file file) differs))
          (cases_eq v.file file);
    }
grouped_more files held rows rows' ends ends' (End f count) kept sound store =
    let clear = no-fault (leb files f) (is_some (end_at f held)) (ltb 1000000 count || has_past f count held) _ _ _ sound in
    let allowed = or_parts (ltb 1000000 count) (has_past f count held) clear.2 in
    let here : (file : ℕ) → f ≡ file → ends' file ≡ Some count
    = λ file e. store.1 file ∙ cond-true (eqb f file) _ _ (eq-eqb f file e) in
    let elsewhere : (file : ℕ) → (f ≡ file → ⊥) → ends' file ≡ ends file
    = λ file differs. store.1 file ∙ cond-false (eqb f file) _ _ (eqb-other f file differs) in
    record {
      outside = λ file past. store.0 file ∙ kept.outside file past;
      items_of_file = λ file. ⊎_elim
          (λ same. rw (store.0 file, here file same)
          (items_of_file-end held file f count (rows file) (ends file) (kept.items_of_file file) same
          (subst (λ (g : ℕ). is_some (end_at g held) ≡ false) same clear.1)
          (subst (λ (g : ℕ). has_past g count held ≡ false) same allowed.1)))
          (λ differs. rw (store.0 file, elsewhere file differs)
          (items_of_file-other held file (rows file) (ends file) (End f count) (kept.items_of_file file) differs))
          (cases_eq f file);
    }

-- the stored items as they are written back
pub written_back : {A : Type 0} (xs ys : List A) (n : ℕ) → n ≡ length xs → length ys ≡ length xs →
    take n (ys ++ drop (length ys) xs) ≡ ys
written_back xs ys n all same =
    let rest : drop (length ys) xs ≡ [] = drop_all (length ys) xs (omega arith) in
    rw (rest, append-nil ys) (take_all n ys (omega arith))
