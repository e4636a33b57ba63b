-- Members of lists, and the lists that can have members.
use Rattle.std.proofs.Common.{◌≡◌, ℕ, ◌+◌, ◌<◌, ◌≤◌, ◌==◌, zero, suc, Bool, true, false, cond, List, [], ◌∷◌, ◌++◌, All, Contains, filter, length, get_or, refl, subst, sym, ap, ◌∙◌, arith, inl, inr, ⊎_elim, ◌⊎◌, length-append}
use Rattle.std.specs.List.Sorted.{IsStrictlyIncreasing}
use Rattle.std.proofs.lemmas.Bool.{cases_lt, eq-eqb, eqb-true}
use Rattle.std.proofs.lemmas.List.{get_or_append_left, get_or_past, get_or_push}
use Rattle.std.proofs.lemmas.List.Elements.{All-contains, All-contains_itself, All-filter, Contains-append_right, filter_passes}
use Rattle.std.proofs.lemmas.List.Folds.{Any-from_list_any, list_any_at}
use Rattle.std.proofs.lemmas.List.Kept.{AllPairs-from_increasing}
use Rattle.precedence.specs.Closed.{HasArc}
use Rattle.precedence.specs.IdRanges.{is_in}

-- some element of a list that has one at an index
pub some_of : {X : Type 0} (xs : List X) (k : ℕ) → k < length xs → X
some_of [] k lt = absurd (omega arith)
some_of (x ∷ xs) k lt = x

pub contains_true : (xs : List ℕ) (c : ℕ) → Contains xs c → is_in xs c ≡ true
contains_true xs c has = list_any_at (λ y. y == c) xs has.0 c has.1 (eq-eqb _ _ has.2)

pub true_contains : (xs : List ℕ) (c : ℕ) → is_in xs c ≡ true → Contains xs c
true_contains xs c h =
    let w = Any-from_list_any (λ y. y == c) xs h in
    (w.0, w.2, subst (λ y. get_or xs w.0 y ≡ y) (eqb-true _ _ w.4) w.3)

pub in_none : (c : ℕ) → Contains {X = ℕ} [] c → ⊥
in_none c has = let lt = has.1 in omega arith

pub cons_cases : (x : ℕ) (xs : List ℕ) (c : ℕ) → Contains (x ∷ xs) c → (x ≡ c) ⊎ Contains xs c
cons_cases x xs c has = at has.0 has.1 has.2
  where
    at : (k : ℕ) → k < length (x ∷ xs) → get_or (x ∷ xs) k c ≡ c → (x ≡ c) ⊎ Contains xs c
    at zero lt is = inl is
    at (suc k) lt is = inr (k, omega arith, is)

-- ---- ascending lists

pub tail_rises : (x : ℕ) (xs : List ℕ) → IsStrictlyIncreasing (x ∷ xs) → IsStrictlyIncreasing xs
tail_rises x xs rising k lt = AllPairs-from_increasing (x ∷ xs) rising (suc k) (suc (k + 1)) 0 (omega arith) (omega arith)

pub first_below : (x : ℕ) (xs : List ℕ) (c : ℕ) → IsStrictlyIncreasing (x ∷ xs) → Contains xs c → x < c
first_below x xs c rising has =
    let lt = has.1 in
    omega (arith, AllPairs-from_increasing (x ∷ xs) rising 0 (suc has.0) c (omega arith) (omega arith), has.2)

pub rising_push : (xs : List ℕ) (y : ℕ) → IsStrictlyIncreasing xs → All (λ x. x < y) xs → IsStrictlyIncreasing (xs ++ y ∷ [])
rising_push xs y rising below k lt =
    let long = length-append xs (y ∷ []) in
    let here = get_or_append_left xs (y ∷ []) 0 k (omega (arith, lt, long)) in
    ⊎_elim
    (λ before. omega (arith, rising k before, here, get_or_append_left xs (y ∷ []) 0 (k + 1) before))
    (λ last. omega (arith, below k 0 (omega (arith, lt, long)), here, get_or_push xs y 0 (k + 1) (omega (arith, last, lt, long))))
    (cases_lt (k + 1) (length xs))

-- two with the same members are equal
pub one_list : (xs ys : List ℕ) → IsStrictlyIncreasing xs → IsStrictlyIncreasing ys → ((c : ℕ) → Contains xs c → Contains ys c)
    → ((c : ℕ) → Contains ys c → Contains xs c) → xs ≡ ys
one_list [] [] rx ry to back = refl
one_list [] (y ∷ ys) rx ry to back = absurd (in_none y (back y (0, omega arith, refl)))
one_list (x ∷ xs) [] rx ry to back = absurd (in_none x (to x (0, omega arith, refl)))
one_list (x ∷ xs) (y ∷ ys) rx ry to back =
    let low = at_least y ys x ry (to x (0, omega arith, refl)) in
    let up = at_least x xs y rx (back y (0, omega arith, refl)) in
    let same : x ≡ y = omega (arith, low, up) in
    let rest : xs ≡ ys = one_list xs ys (tail_rises x xs rx) (tail_rises y ys ry)
    (λ c h. after y ys c (to c (Contains-append_right (x ∷ []) xs c h)) (let less = first_below x xs c rx h in omega (arith, less, same)))
    (λ c h. after x xs c (back c (Contains-append_right (y ∷ []) ys c h)) (let less = first_below y ys c ry h in omega (arith, less, same))) in
    λ j. same j ∷ rest j
  where
    at_least : (y : ℕ) (ys : List ℕ) (c : ℕ) → IsStrictlyIncreasing (y ∷ ys) → Contains (y ∷ ys) c → y ≤ c
    at_least y ys c rising h = ⊎_elim
        (λ is. omega (arith, is))
        (λ later. omega (arith, first_below y ys c rising later))
        (cons_cases y ys c h)

    after : (y : ℕ) (ys : List ℕ) (c : ℕ) → Contains (y ∷ ys) c → y < c → Contains ys c
    after y ys c h less = ⊎_elim
        (λ is. absurd (omega (arith, less, is)))
        (λ later. later)
        (cons_cases y ys c h)

-- ---- filters

module _ (test : ℕ → Bool) where
  pub kept_in : (xs : List ℕ) (c : ℕ) → Contains xs c → test c ≡ true → Contains (filter test xs) c
  kept_in [] c has passes = absurd (in_none c has)
  kept_in (x ∷ xs) c has passes = ⊎_elim
      (λ is.
      let first : test x ≡ true = ap test is ∙ passes in
      subst (λ all. Contains all c) (sym (ap (λ b. cond b (x ∷ filter test xs) (filter test xs)) first)) (0, omega arith, is))
      (λ later. by (test x) (kept_in xs c later passes))
      (cons_cases x xs c has)
    where
      by : (b : Bool) → Contains (filter test xs) c → Contains (cond b (x ∷ filter test xs) (filter test xs)) c
      by true rest = Contains-append_right (x ∷ []) (filter test xs) c rest
      by false rest = rest

  pub kept_from : (xs : List ℕ) (c : ℕ) → Contains (filter test xs) c → Contains xs c × (test c ≡ true)
  kept_from xs c has = (
    All-contains (Contains xs) (filter test xs) c (All-filter test (Contains xs) xs (All-contains_itself xs)) has,
    All-contains (λ x. test x ≡ true) (filter test xs) c (filter_passes test xs) has,
  )

-- a missing list is empty
pub in_list : (lists : List (List ℕ)) (b c : ℕ) → HasArc lists b c → b < length lists
in_list lists b c has = ⊎_elim
    (λ lt. lt)
    (λ past.
    let none : length (get_or lists b []) ≡ 0 = ap (λ (xs : List ℕ). length xs) (get_or_past lists b [] past) in
    let lt = has.1 in
    absurd (omega arith))
    (cases_lt b (length lists))
