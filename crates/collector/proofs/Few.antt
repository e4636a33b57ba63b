-- A complete list of items is as long as its files allow.
use Rattle.std.proofs.Common.{◌≡◌, ℕ, zero, suc, ◌+◌, ◌*◌, ◌<◌, ◌≤◌, Bool, true, false, ◌||◌, cond, eqb, List, [], ◌∷◌, length, get_or, refl, sym, ap, subst, ◌∙◌, ⊎_elim, arith, length-append}
use Rattle.std.specs.List.{All, count_by, flat_map}
use Rattle.std.proofs.lemmas.Bool.{cases_eq, cond-false, eq-eqb}
use Rattle.std.proofs.lemmas.List.Elements.{All-tail, All-weaker}
use Rattle.rows.specs.declared.item.Item.{Item}
use Rattle.rows.specs.declared.item.Item.TheVariants.{Row, End}
use Rattle.plan_parts.specs.declared.ranges.TheConstants.{MAX_ROWS}
use Rattle.collector.specs.Complete.{Fits, IsComplete}
use Rattle.collector.specs.Found.{is_row_at, is_end_of}
use Rattle.collector.proofs.Complete.{counted, counted-no, counted-yes}
use Rattle.collector.proofs.Slots.{eqb-other}

-- one of the first n tests passes
abbrev one_of : ℕ → (ℕ → Item → Bool) → Item → Bool
one_of zero test item = false
one_of (suc n) test item = test n item || one_of n test item

passes : (n k : ℕ) (test : ℕ → Item → Bool) (item : Item) → k < n → test k item ≡ true → one_of n test item ≡ true
passes zero k test item within is = absurd (omega (arith, within))
passes (suc n) k test item within is =
    ⊎_elim (λ same. ap (λ b. b || one_of n test item) (ap (λ j. test j item) (sym same) ∙ is))
    (λ differs. either (test n item) (passes n k test item (below k n within differs) is))
    (cases_eq k n)
  where
    below : (k n : ℕ) → k < suc n → (k ≡ n → ⊥) → k < n
    below k n within differs = grind (arith, differs)

    either : (a : Bool) {b : Bool} → b ≡ true → (a || b) ≡ true
    either true is = refl
    either false is = is

counted-either : (p q : Item → Bool) (items : List Item) → count_by (λ i. p i || q i) items ≤ count_by p items + count_by q items
counted-either p q [] = omega arith
counted-either p q (item ∷ items) =
    omega (arith, counted (λ i. p i || q i) item items, counted p item items, counted q item items, once (p item) (q item), counted-either p q items)
  where
    once : (a b : Bool) → cond (a || b) 1 0 ≤ cond a 1 0 + cond b 1 0
    once true b = omega arith
    once false b = omega arith

-- n tests, each passed by at most `most` items
few-passed : (n most : ℕ) (test : ℕ → Item → Bool) (items : List Item) → ((k : ℕ) → k < n → count_by (test k) items ≤ most)
    → count_by (one_of n test) items ≤ n * most
few-passed zero most test items each = let none = none-passes items in omega (arith, none)
  where
    none-passes : (items : List Item) → count_by (one_of zero test) items ≡ 0
    none-passes [] = refl
    none-passes (item ∷ items) = counted-no (one_of zero test) item items refl ∙ none-passes items
few-passed (suc n) most test items each =
    let parts : count_by (one_of (suc n) test) items ≤ count_by (test n) items + count_by (one_of n test) items
    = counted-either (test n) (one_of n test) items in
    let last = each n (omega arith) in
    let rest = few-passed n most test items (λ k within. each k (omega (arith, within))) in
    grind arith

all-counted : (p : Item → Bool) (items : List Item) → All (λ i. p i ≡ true) items → length items ≡ count_by p items
all-counted p [] all = refl
all-counted p (item ∷ items) all =
    let more = counted-yes p item items (all 0 item (omega arith)) in
    omega (arith, more, all-counted p items (All-tail (λ i. p i ≡ true) item items all))

module _ (files : ℕ) (items : List Item) (whole : IsComplete files items) where
  -- the row at a place of a file, or its end mark at the place after its rows
  abbrev is_at : ℕ → ℕ → Item → Bool
  is_at file k item = cond (eqb k (whole.counts file)) (is_end_of file item) (is_row_at file k item)

  abbrev is_of_file : ℕ → Item → Bool
  is_of_file file = one_of (suc (whole.counts file)) (is_at file)

  once : (file : ℕ) → file < files → (k : ℕ) → k < suc (whole.counts file) → count_by (is_at file k) items ≤ 1
  once file within k below =
      let reported : (b : Bool) → eqb k (whole.counts file) ≡ b → count_by (is_at file k) items ≡ count_by (λ i. cond b (is_end_of file i) (is_row_at file k i)) items
      = λ b e. ap (λ c. count_by (λ i. cond c (is_end_of file i) (is_row_at file k i)) items) e in
      ⊎_elim (λ same. let is = reported true (eq-eqb k (whole.counts file) same) ∙ whole.ends file within in omega (arith, is))
      (λ differs.
      let is = reported false (eqb-other k (whole.counts file) differs) ∙ whole.rows file k within (next k (whole.counts file) below differs) in omega (arith, is))
      (cases_eq k (whole.counts file))
    where
      next : (k n : ℕ) → k < suc n → (k ≡ n → ⊥) → k < n
      next k n below differs = grind (arith, differs)

  each-file : (file : ℕ) → file < files → count_by (is_of_file file) items ≤ MAX_ROWS + 1
  each-file file within =
      let counted = few-passed (suc (whole.counts file)) 1 (is_at file) items (once file within) in
      omega (arith, whole.few file within, counted)

  of-file : (item : Item) → Fits files whole.counts item → one_of files is_of_file item ≡ true
  of-file (Row v) fits =
      let count = whole.counts v.file in
      passes files v.file is_of_file (Row v) fits.0
      (passes (suc count) v.place (is_at v.file) (Row v) (omega (arith, fits.1))
      (cond-false (eqb v.place count) _ _ (eqb-other v.place count (λ e. omega (arith, fits.1, e)))
      ∙ rw (eq-eqb v.file v.file refl, eq-eqb v.place v.place refl) refl))
  of-file (End f n) fits =
      let count = whole.counts f in
      passes files f is_of_file (End f n) fits.0
      (passes (suc count) count (is_at f) (End f n) (omega arith) (rw (eq-eqb count count refl) (eq-eqb f f refl)))

  pub few-items : length items ≤ files * (MAX_ROWS + 1)
  few-items =
      let passed = few-passed files (MAX_ROWS + 1) is_of_file items each-file in
      let all = all-counted (one_of files is_of_file) items
      (All-weaker (Fits files whole.counts) (λ i. one_of files is_of_file i ≡ true) of-file items whole.others) in
      subst (λ (n : ℕ). n ≤ files * (MAX_ROWS + 1)) (sym all) passed

-- each of several lists is at most as long as all together
pub list-within : (lists : List (List Item)) (l : ℕ) → length (get_or lists l []) ≤ length (flat_map (λ list. list) lists)
list-within [] l = omega arith
list-within (list ∷ lists) zero = omega (arith, length-append list (flat_map (λ l. l) lists))
list-within (list ∷ lists) (suc l) =
    let rest = list-within lists l in omega (arith, length-append list (flat_map (λ l. l) lists))
