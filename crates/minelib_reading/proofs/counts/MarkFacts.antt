-- What marks show of the marked numbers.
use Rattle.std.proofs.Common.{◌≡◌, ◌≢◌, length-append, ℕ, zero, suc, ◌+◌, ◌<◌, ◌==◌, ◌||◌, Bool, true, false, List, [], ◌∷◌, ◌++◌, length, take, drop, refl, sym, ap, ◌∙◌, subst, arith, get_or}
use Rattle.std.specs.Prelude.{All, IsTrue, nat_lt, slice_index_or, slice_set}
use Rattle.std.proofs.Math.Seq.{take-suc}
use Rattle.std.proofs.lemmas.Bool.{and_parts, eqb-true, ltb-true}
use Rattle.std.proofs.lemmas.Bool.Decides.{nat_tests}
use Rattle.std.proofs.lemmas.List.{get_or-set_other, get_or_at, get_or_append_left}
use Rattle.std.proofs.lemmas.List.Elements.{All-cons, All-nil}
use Rattle.std.proofs.lemmas.List.Quantifiers.{all_pairs_push}
use Rattle.std.proofs.lemmas.List.Folds.{Any-from_list_any, list_any-append}
use Rattle.std.proofs.lemmas.Grind.{get_or-set_at}
use Rattle.std.proofs.Math.Bool.{or-true, or-false}
use Rattle.minelib_reading.specs.inner.Marks.{AreMarked, rise_above}
use Rattle.minelib_reading.proofs.lines.PrecTests.{differ_again, others_differ, pairs_differ, stands_not}
use Rattle.minelib_reading.specs.LineForms.{all_differ, has_id}

one_more : (ids : List ℕ) (id place : ℕ) → has_id (ids ++ id ∷ []) place ≡ (has_id ids place || ((id == place) || false))
one_more ids id place = list_any-append (λ other. other == place) ids (id ∷ [])

-- if a number also appears at a later place, the numbers are not distinct
has_id_twice : (ids : List ℕ) (id : ℕ) (rest : List ℕ) → has_id ids id ≡ true → all_differ (ids ++ id ∷ rest) ≡ false
has_id_twice ids id rest e = by (all_differ (ids ++ id ∷ rest)) refl
  where
    by : (t : Bool) → all_differ (ids ++ id ∷ rest) ≡ t → t ≡ false
    by false differ = refl
    by true differ =
        let there = Any-from_list_any (λ other. other == id) ids e in
        let same = get_or_append_left ids (id ∷ rest) there.1 there.0 there.2 ∙ there.3 ∙ eqb-true there.1 id there.4 in
        absurd (pairs_differ (ids ++ id ∷ rest) differ there.0 (length ids) there.1 there.2 (omega (arith, length-append ids (id ∷ rest)))
        (same ∙ sym (get_or_at ids id rest there.1 (length ids) refl)))

-- distinct numbers with another one that is not among them
differ_more : (ids : List ℕ) (id : ℕ) → all_differ ids ≡ true → has_id ids id ≡ false → all_differ (ids ++ id ∷ []) ≡ true
differ_more ids id e new =
    differ_again (ids ++ id ∷ []) (all_pairs_push (λ a b. a ≢ b) ids id (pairs_differ ids e) (others_differ id ids new))

-- exactly the numbers of a list are marked
abbrev pub AreJustMarked : List ℕ → List Bool → Type 0
AreJustMarked ids marks = (place : ℕ) → slice_index_or marks place false ≡ has_id ids place

marked_more : (ids : List ℕ) (marks : List Bool) (id : ℕ) → id < length marks → AreJustMarked ids marks
    → AreJustMarked (ids ++ id ∷ []) (slice_set marks id true)
marked_more ids marks id within just place = at (id == place) refl where
  at : (t : Bool) → (id == place) ≡ t → slice_index_or (slice_set marks id true) place false ≡ has_id (ids ++ id ∷ []) place
  at true e = get_or-set_at marks id place true false (grind (arith, nat_tests, e)) within
      ∙ sym (one_more ids id place ∙ rw e (or-true (has_id ids place)))
  at false e = get_or-set_other marks id place true false (grind (arith, nat_tests, e)) ∙ just place
      ∙ sym (one_more ids id place ∙ rw e (or-false (has_id ids place)))

-- the numbers before a place, the number there, and the later ones
parts_at : (ids : List ℕ) (place : ℕ) → place < length ids → ids ≡ take place ids ++ get_or ids place 0 ∷ drop (suc place) ids
parts_at [] place within = absurd (omega (arith, within))
parts_at (id ∷ ids) zero within = refl
parts_at (id ∷ ids) (suc place) within = ap (λ rest. id ∷ rest) (parts_at ids place (omega (arith, within)))

-- if the number at a place is already marked
pub repeated : (ids : List ℕ) (marks : List Bool) (place : ℕ) → place < length ids → AreJustMarked (take place ids) marks
    → slice_index_or marks (get_or ids place 0) false ≡ true → all_differ ids ≡ false
repeated ids marks place within just stands =
    subst (λ all. all_differ all ≡ false) (sym (parts_at ids place within))
    (has_id_twice (take place ids) (get_or ids place 0) (drop (suc place) ids) (sym (just (get_or ids place 0)) ∙ stands))

-- the marked first numbers are in the list
pub marked_of_all : (ids : List ℕ) (marks : List Bool) (place : ℕ) → place < length ids → AreJustMarked (take place ids) marks
    → AreMarked ids marks
marked_of_all ids marks place within just at h =
    let following = get_or ids place 0 ∷ drop (suc place) ids in
    let first : has_id (take place ids) at ≡ true = sym (just at) ∙ h in
    let whole : has_id (take place ids ++ following) at ≡ true =
    list_any-append (λ other. other == at) (take place ids) following ∙ rw first refl in
    subst (λ all. IsTrue (has_id all at)) (sym (parts_at ids place within)) whole

-- marking the number at a place, if it is not marked yet
pub marked_at : (ids : List ℕ) (marks : List Bool) (place : ℕ) → place < length ids → get_or ids place 0 < length marks
    → all_differ (take place ids) ≡ true → AreJustMarked (take place ids) marks → slice_index_or marks (get_or ids place 0) false ≡ false
    → (all_differ (take (place + 1) ids) ≡ true) × AreJustMarked (take (place + 1) ids) (slice_set marks (get_or ids place 0) true)
marked_at ids marks place within low differ just new =
    let next : place + 1 ≡ suc place = omega arith in
    let more = take-suc ids place 0 within in
    let id = get_or ids place 0 in
    rw (next, more) (differ_more (take place ids) id differ (sym (just id) ∙ new), marked_more (take place ids) marks id low just)

-- numbers that rise above a number are all above it
rising_above : (own : ℕ) (ids : List ℕ) → rise_above own ids ≡ true → All (λ id. own < id) ids
rising_above own [] e = All-nil (λ id. own < id)
rising_above own (id ∷ ids) e =
    let parts = and_parts (nat_lt own id) (rise_above id ids) e in
    let first : own < id = ltb-true own id parts.0 in
    All-cons (λ other. own < other) id ids first (λ k d within. let above = rising_above id ids parts.1 k d within in omega (arith, first, above))

-- and are distinct, and other than it
pub rising_differ : (own : ℕ) (ids : List ℕ) → rise_above own ids ≡ true → (has_id ids own ≡ false) × (all_differ ids ≡ true)
rising_differ own [] e = (refl, refl)
rising_differ own (id ∷ ids) e =
    let parts = and_parts (nat_lt own id) (rise_above id ids) e in
    let others = rising_differ id ids parts.1 in
    let none = stands_not own (id ∷ ids) (λ k d within same. let above = rising_above own (id ∷ ids) e k d within in omega (arith, above, same)) in
    (none, rw (others.0, others.1) refl)
