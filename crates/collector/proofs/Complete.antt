-- Complete lists are not rejected anywhere, and nothing is missing in them.
use Rattle.std.proofs.Common.{◌≡◌, ℕ, suc, ◌+◌, ◌<◌, Bool, true, false, ◌&&◌, cond, eqb, ltb, is_some, List, [], ◌∷◌, ◌++◌, Option, Some, None, refl, sym, ap, subst, ◌∙◌, ⊎_elim, arith}
use Rattle.std.specs.List.{AllByRecursion, Contains, count_by}
use Rattle.std.specs.List.Sorted.{IsPermutation}
use Rattle.std.proofs.lemmas.Bool.{cond-true, cond-false, le-ltb, lt-ltb, lt-leb, cases_Bool, cases_eq, eqb-true, false≢true, eq-eqb, and_parts}
use Rattle.std.proofs.lemmas.List.Elements.{recursion_from_All, All-from_recursion, All-contains}
use Rattle.std.proofs.lemmas.List.Sorted.{All-permutation, sum_by-IsPermutation}
use Rattle.std.proofs.lemmas.List.Sums.{sum_by-append, sum_by-cons}
use Rattle.std.proofs.lemmas.Option.{none-some, same_Some}
use Rattle.rows.specs.declared.item.Item.{Item}
use Rattle.rows.specs.declared.item.Item.TheVariants.{Row, End}
use Rattle.rows.specs.declared.item.Valued.{Valued}
use Rattle.collector.specs.Complete.{Fits, IsComplete}
use Rattle.collector.specs.Fault.{fault, is_after}
use Rattle.collector.specs.Found.{is_row_at, is_end_of, row_at, end_at, has_past}
use Rattle.collector.specs.Lists.{IsFull, IsMissing, IsOpen}
use Rattle.collector.proofs.Slots.{eqb-other}

-- another item counts once, if it passes
pub counted : (p : Item → Bool) (item : Item) (items : List Item) → count_by p (item ∷ items) ≡ cond (p item) 1 0 + count_by p items
counted p item items = sum_by-cons (λ x. cond (p x) 1 0) item items

pub counted-yes : (p : Item → Bool) (item : Item) (items : List Item) → p item ≡ true → count_by p (item ∷ items) ≡ 1 + count_by p items
counted-yes p item items passes = counted p item items ∙ ap (λ b. cond b 1 0 + count_by p items) passes

pub counted-no : (p : Item → Bool) (item : Item) (items : List Item) → p item ≡ false → count_by p (item ∷ items) ≡ count_by p items
counted-no p item items fails = let e = counted p item items ∙ ap (λ b. cond b 1 0 + count_by p items) fails in omega arith

-- a row is found if one is counted, and so is an end mark
found-more : {A : Type 0} (p : Item → Bool) (item : Item) (items : List Item) (first : A) (o : Option A)
    → is_some o ≡ ltb 0 (count_by p items) → is_some (cond (p item) (Some first) o) ≡ ltb 0 (count_by p (item ∷ items))
found-more p item items first o found =
    ⊎_elim
    (λ yes. ap is_some (cond-true _ _ _ yes) ∙ sym (lt-ltb 0 _ (let more = counted-yes p item items yes in omega arith)))
    (λ no. ap is_some (cond-false _ _ _ no) ∙ found ∙ ap (ltb 0) (sym (counted-no p item items no)))
    (cases_Bool (p item))

row-found : (file place : ℕ) (items : List Item) → is_some (row_at file place items) ≡ ltb 0 (count_by (is_row_at file place) items)
row-found file place [] = sym (le-ltb 0 0 (omega arith))
row-found file place (End f n ∷ items) = row-found file place items ∙ ap (ltb 0) (sym (counted-no (is_row_at file place) (End f n) items refl))
row-found file place (Row v ∷ items) = found-more (is_row_at file place) (Row v) items v (row_at file place items) (row-found file place items)

end-found : (file : ℕ) (items : List Item) → is_some (end_at file items) ≡ ltb 0 (count_by (is_end_of file) items)
end-found file [] = sym (le-ltb 0 0 (omega arith))
end-found file (Row v ∷ items) = end-found file items ∙ ap (ltb 0) (sym (counted-no (is_end_of file) (Row v) items refl))
end-found file (End f n ∷ items) = found-more (is_end_of file) (End f n) items n (end_at file items) (end-found file items)

-- an item of the remainder is an item of the whole
later : (items : List Item) (first item : Item) → Contains items item → Contains (first ∷ items) item
later items first item h = (suc h.0, omega (arith, h.1), h.2)

pub row-held : (items : List Item) (file place : ℕ) (v : Valued) → row_at file place items ≡ Some v →
    (v.file ≡ file) × (v.place ≡ place) × Contains items (Row v)
row-held [] file place v e = absurd (none-some v e)
row-held (End f n ∷ items) file place v e = let h = row-held items file place v e in (h.0, h.1, later items (End f n) (Row v) h.2)
row-held (Row w ∷ items) file place v e =
    ⊎_elim
    (λ yes. let same = same_Some w v (sym (cond-true _ (Some w) (row_at file place items) yes) ∙ e) in
    let both = and_parts (eqb w.file file) (eqb w.place place) yes in (
      ap (λ u. u.file) (sym same) ∙ eqb-true w.file file both.0,
      ap (λ u. u.place) (sym same) ∙ eqb-true w.place place both.1,
      (0, omega arith, ap Row same),
    ))
    (λ no. let h = row-held items file place v (sym (cond-false _ (Some w) (row_at file place items) no) ∙ e) in
    (h.0, h.1, later items (Row w) (Row v) h.2))
    (cases_Bool (eqb w.file file && eqb w.place place))

pub end-held : (items : List Item) (file count : ℕ) → end_at file items ≡ Some count → Contains items (End file count)
end-held [] file count e = absurd (none-some count e)
end-held (Row w ∷ items) file count e = later items (Row w) (End file count) (end-held items file count e)
end-held (End f n ∷ items) file count e =
    ⊎_elim
    (λ yes. (
      0,
      omega arith,
      ap (λ g. End g n) (eqb-true f file yes)
          ∙ ap (λ m. End file m) (same_Some n count (sym (cond-true (eqb f file) (Some n) (end_at file items) yes) ∙ e)),
    ))
    (λ no. later items (End f n) (End file count)
    (end-held items file count (sym (cond-false (eqb f file) (Some n) (end_at file items) no) ∙ e)))
    (cases_Bool (eqb f file))

-- if the items fit, an end mark that is found has its file's count
pub end-fits : (files : ℕ) (counts : ℕ → ℕ) (file count : ℕ) (items : List Item) → AllByRecursion (Fits files counts) items →
    end_at file items ≡ Some count → count ≡ counts file
end-fits files counts file count items fit e =
    (All-contains (Fits files counts) items (End file count) (All-from_recursion (Fits files counts) items fit)
    (end-held items file count e)).1

-- and no row is at that count or after it
past-fits : (files : ℕ) (counts : ℕ → ℕ) (file : ℕ) (items : List Item) → AllByRecursion (Fits files counts) items →
    has_past file (counts file) items ≡ false
past-fits files counts file [] fit = refl
past-fits files counts file (End f n ∷ items) fit = past-fits files counts file items fit.1
past-fits files counts file (Row v ∷ items) fit =
    ⊎_elim
    (λ same. rw (eq-eqb v.file file same, lt-leb (counts file) v.place (subst (λ (f : ℕ). v.place < counts f) same fit.0.1))
    (past-fits files counts file items fit.1))
    (λ differs. rw (eqb-other v.file file differs) (past-fits files counts file items fit.1))
    (cases_eq v.file file)

after-fits : (files : ℕ) (counts : ℕ → ℕ) (file place : ℕ) (items : List Item) → AllByRecursion (Fits files counts) items →
    place < counts file → (o : Option ℕ) → end_at file items ≡ o → is_after o place ≡ false
after-fits files counts file place items fit below None e = refl
after-fits files counts file place items fit below (Some n) e =
    let same = end-fits files counts file n items fit e in lt-leb n place (omega arith)

-- what fits the whole fits the items before an item and the item
prefix : (P : Item → Type 0) (held rest : List Item) → AllByRecursion P (held ++ rest) → AllByRecursion P held
prefix P [] rest fit = tt
prefix P (x ∷ held) rest fit = (fit.0, prefix P held rest fit.1)

at-cut : (P : Item → Type 0) (held rest : List Item) (item : Item) → AllByRecursion P (held ++ item ∷ rest) → P item
at-cut P [] rest item fit = fit.0
at-cut P (x ∷ held) rest item fit = at-cut P held rest item fit.1

-- an item that is counted once is not counted before itself
single-cut : (p : Item → Bool) (held rest : List Item) (item : Item) → p item ≡ true → count_by p (held ++ item ∷ rest) ≡ 1 →
    ltb 0 (count_by p held) ≡ false
single-cut p held rest item passes once =
    let cut = sum_by-append (λ x. cond (p x) 1 0) held (item ∷ rest) in
    let more = counted-yes p item rest passes in
    le-ltb 0 (count_by p held) (omega arith)

pub not_refused : (files : ℕ) (held rest : List Item) (item : Item) → IsComplete files (held ++ item ∷ rest) → fault files held item ≡ None
not_refused files held rest (Row v) whole =
    let fit = recursion_from_All (Fits files whole.counts) _ whole.others in
    let here = at-cut (Fits files whole.counts) held rest (Row v) fit in
    let most = whole.few v.file here.0 in
    let single = single-cut (is_row_at v.file v.place) held rest (Row v)
    (rw (eq-eqb v.file v.file refl, eq-eqb v.place v.place refl)) (whole.rows v.file v.place here.0 here.1) in
    let fresh = row-found v.file v.place held ∙ single in
    let below = after-fits files whole.counts v.file v.place held (prefix _ held (Row v ∷ rest) fit) here.1 (end_at v.file held) refl in
    rw (fresh, lt-leb files v.file here.0, lt-leb 1000000 v.place (omega arith), below)
not_refused files held rest (End f n) whole =
    let fit = recursion_from_All (Fits files whole.counts) _ whole.others in
    let here = at-cut (Fits files whole.counts) held rest (End f n) fit in
    let most = whole.few f here.0 in
    let single = single-cut (is_end_of f) held rest (End f n) (eq-eqb f f refl) (whole.ends f here.0) in
    let fresh = end-found f held ∙ single in
    let none : has_past f n held ≡ false
    = subst (λ (k : ℕ). has_past f k held ≡ false) (sym here.1) (past-fits files whole.counts f held (prefix _ held (End f n ∷ rest) fit)) in
    rw (lt-leb files f here.0, fresh, le-ltb 1000000 n (omega arith), none)

-- a look-up that finds something
pub some-value : {A : Type 0} (o : Option A) → is_some o ≡ true → (x : A) × (o ≡ Some x)
some-value None e = absurd (false≢true e)
some-value (Some x) e = (x, refl)

pub is_full : (files : ℕ) (items : List Item) (file : ℕ) → IsComplete files items → file < files → IsFull items file
is_full files items file whole within =
    let fit = recursion_from_All (Fits files whole.counts) _ whole.others in
    let once = whole.ends file within in
    let end_mark = some-value (end_at file items) (end-found file items ∙ lt-ltb 0 _ (omega arith)) in
    let same = end-fits files whole.counts file end_mark.0 items fit end_mark.1 in (
      end_mark.0,
      end_mark.1,
      λ place below. row-found file place items
          ∙ lt-ltb 0 _ (let held = whole.rows file place within (omega arith) in omega arith),
    )

-- in a full file no row is missing
full-not-open : (items : List Item) (file place : ℕ) → IsFull items file → IsOpen (end_at file items) place
    → row_at file place items ≡ None → ⊥
full-not-open items file place full open' none =
    let below = subst (λ (o : Option ℕ). IsOpen o place) full.1 open' in
    false≢true (sym (ap is_some none) ∙ full.2 place below)

pub lacks_nothing : (files : ℕ) (items : List Item) (file place : ℕ) → IsComplete files items → IsMissing files items file place → ⊥
lacks_nothing files items file place whole lacking =
    full-not-open items file place (is_full files items file whole lacking.within) lacking.open_at lacking.none

pub any_order : (files : ℕ) (items order : List Item) → IsComplete files items → IsPermutation items order → IsComplete files order
any_order files items order whole moved = record {
  counts = whole.counts;
  few = whole.few;
  ends = λ file within. sum_by-IsPermutation (λ x. cond (is_end_of file x) 1 0) items order moved ∙ whole.ends file within;
  rows = λ file place within below. sum_by-IsPermutation (λ x. cond (is_row_at file place x) 1 0) items order moved
      ∙ whole.rows file place within below;
  others = All-permutation (Fits files whole.counts) items order moved whole.others;
}
