-- Items of a list after earlier ones; a list in which each item follows the last earlier one rises.
use Rattle.std.proofs.Common.{◌≡◌, ◌-◌, ◌<◌, Bool, true, List, [], ◌∷◌, ◌++◌, length, get_or, arith, refl, ◌∙◌, ap, subst, length-append, sym, inl, inr}
use Rattle.std.specs.Prelude.{All, AllPairs, IsTrue, ℕ}
use Rattle.std.proofs.lemmas.List.{get_or_at, get_or_append_left}
use Rattle.std.proofs.lemmas.Option.{slice_get-get_or}
use Rattle.minelib_reading.specs.ModelDraft.{last_of, is_after}
use Rattle.std.proofs.lemmas.Bool.{cases_lt}
use Rattle.std.proofs.lemmas.List.Quantifiers.{all_pairs_push}

module _ {A : Type 0} (all done : List A) (x : A) (rest : List A) (whole : all ≡ done ++ x ∷ rest) where
  -- its place is the number of earlier items
  pub is_place : length done < length all
  is_place = omega (arith, ap length whole, length-append done (x ∷ rest))

  pub stands_there : (d : A) → get_or all (length done) d ≡ x
  stands_there d = ap (λ items. get_or items (length done) d) whole ∙ get_or_at done x rest d (length done) refl

  -- a property of each item is a property of it
  pub item_there : (P : A → Type 0) → All P all → P x
  item_there P h = subst P (stands_there x) (h (length done) x is_place)

-- in a list that rises, it follows the last earlier one
pub after_last : {A : Type 0} (before : A → A → Bool) (all done : List A) (x : A) (rest : List A) → all ≡ done ++ x ∷ rest
    → AllPairs (λ c e. IsTrue (before c e)) all → is_after before (last_of done) x ≡ true
after_last before all [] x rest whole h = refl
after_last before all (y ∷ ys) x rest whole h =
    let last = length (y ∷ ys) - 1 in
    let prefix : get_or all last x ≡ get_or (y ∷ ys) last x =
    ap (λ items. get_or items last x) whole ∙ get_or_append_left (y ∷ ys) (x ∷ rest) x last (omega arith) in
    let rising = h last (length (y ∷ ys)) x (omega arith) (is_place all (y ∷ ys) x rest whole) in
    rw (slice_get-get_or (y ∷ ys) last x (omega arith), ← prefix) (rw (stands_there all (y ∷ ys) x rest whole x) at rising)

after_each : {A : Type 0} (before : A → A → Bool)
    → ((x y z : A) → IsTrue (before x y) → IsTrue (before y z) → IsTrue (before x z))
    → (items : List A) (x : A) → AllPairs (λ a b. IsTrue (before a b)) items → is_after before (last_of items) x ≡ true
    → (k : ℕ) (d : A) → k < length items → IsTrue (before (get_or items k d) x)
after_each before through items x rising following k d within = elim (cases_lt k (length items - 1)) [
  | inl low ↦ through (get_or items k d) (get_or items (length items - 1) d) x (rising k (length items - 1) d low (omega arith)) end
  | inr high ↦ (let e : length items - 1 ≡ k = omega arith in subst (λ n. IsTrue (before (get_or items n d) x)) e end)
]
  where
    end : before (get_or items (length items - 1) d) x ≡ true
    end = ap (λ o. is_after before o x) (sym (slice_get-get_or items (length items - 1) d (omega arith))) ∙ following

pub rises_after : {A : Type 0} (before : A → A → Bool)
    → ((x y z : A) → IsTrue (before x y) → IsTrue (before y z) → IsTrue (before x z))
    → (items : List A) (x : A) → AllPairs (λ a b. IsTrue (before a b)) items → is_after before (last_of items) x ≡ true
    → AllPairs (λ a b. IsTrue (before a b)) (items ++ x ∷ [])
rises_after before through items x rising following =
    all_pairs_push (λ a b. IsTrue (before a b)) items x rising (after_each before through items x rising following)
