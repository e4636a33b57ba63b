-- A list with another element, at its place.
use Rattle.std.proofs.Common.{◌⊎◌, ◌≡◌, ℕ, zero, suc, ◌+◌, ◌-◌, ◌<◌, ◌≤◌, ltb, List, [], ◌∷◌, ◌++◌, length, set, replicate, Some, refl, ap, ◌∙◌, ⊎_elim, inl, inr, arith, length-append, length-set}
use Rattle.std.specs.List.{slice_get}
use Rattle.std.proofs.lemmas.Bool.{cond-true, cond-false, lt-ltb, le-ltb, cases_lt}
use Rattle.std.proofs.lemmas.List.{length-replicate}
use Rattle.collector.specs.inner.WithAt.{with_at}

get-set_same : {A : Type 0} (xs : List A) (i : ℕ) (y : A) → i < length xs → slice_get (set xs i y) i ≡ Some y
get-set_same [] i y within = absurd (omega arith)
get-set_same (x ∷ xs) zero y within = refl
get-set_same (x ∷ xs) (suc i) y within = get-set_same xs i y (omega arith)

get-set_other : {A : Type 0} (xs : List A) (i k : ℕ) (y : A) → (k ≡ i → ⊥) → slice_get (set xs i y) k ≡ slice_get xs k
get-set_other [] i k y other = refl
get-set_other (x ∷ xs) zero zero y other = absurd (other refl)
get-set_other (x ∷ xs) zero (suc k) y other = refl
get-set_other (x ∷ xs) (suc i) zero y other = refl
get-set_other (x ∷ xs) (suc i) (suc k) y other = get-set_other xs i k y (λ e. other (omega arith))

get-append_left : {A : Type 0} (xs ys : List A) (k : ℕ) → k < length xs → slice_get (xs ++ ys) k ≡ slice_get xs k
get-append_left [] ys k within = absurd (omega arith)
get-append_left (x ∷ xs) ys zero within = refl
get-append_left (x ∷ xs) ys (suc k) within = get-append_left xs ys k (omega arith)

-- after the first list, one value at each place
get-filled : {A : Type 0} (xs : List A) (y : A) (n k : ℕ) → length xs ≤ k → k < length xs + n
    → slice_get (xs ++ replicate n y) k ≡ Some y
get-filled [] y zero k past within = absurd (omega arith)
get-filled [] y (suc n) zero past within = refl
get-filled [] y (suc n) (suc k) past within = get-filled [] y n k (omega arith) (omega arith)
get-filled (x ∷ xs) y n zero past within = absurd (omega arith)
get-filled (x ∷ xs) y n (suc k) past within = get-filled xs y n k (omega arith) (omega arith)

with_within : {A : Type 0} (xs : List A) (place : ℕ) (x : A) → place < length xs → with_at xs place x ≡ set xs place x
with_within xs place x within = cond-true (ltb place (length xs)) _ _ (lt-ltb place (length xs) within)

with_past : {A : Type 0} (xs : List A) (place : ℕ) (x : A) → length xs ≤ place
    → with_at xs place x ≡ xs ++ replicate (place + 1 - length xs) x
with_past xs place x past = cond-false (ltb place (length xs)) _ _ (le-ltb place (length xs) past)

pub length-with_at : {A : Type 0} (xs : List A) (place : ℕ) (x : A) →
    ((place < length xs) × (length (with_at xs place x) ≡ length xs))
    ⊎ ((length xs ≤ place) × (length (with_at xs place x) ≡ place + 1))
length-with_at xs place x =
    ⊎_elim (λ within. inl (within, ap length (with_within xs place x within) ∙ length-set xs place x))
    (λ past. inr (
      past,
      ap length (with_past xs place x past)
          ∙ (let filling = length-replicate (place + 1 - length xs) x
          in omega (arith, length-append xs (replicate (place + 1 - length xs) x))),
    ))
    (cases_lt place (length xs))

pub length-store : {A : Type 0} (xs : List A) (place most : ℕ) (x : A) → length xs ≤ most → place < most → length (with_at xs place x) ≤ most
length-store xs place most x few below = ⊎_elim (λ h. omega (arith, h.1)) (λ h. omega (arith, h.1)) (length-with_at xs place x)

-- the element that was stored
pub get-store : {A : Type 0} (xs : List A) (place : ℕ) (x : A) → slice_get (with_at xs place x) place ≡ Some x
get-store xs place x =
    ⊎_elim (λ within. ap (λ ys. slice_get ys place) (with_within xs place x within) ∙ get-set_same xs place x within)
    (λ past. ap (λ ys. slice_get ys place) (with_past xs place x past) ∙ get-filled xs x (place + 1 - length xs) place past (omega arith))
    (cases_lt place (length xs))

-- the element of another place
pub get-kept : {A : Type 0} (xs : List A) (place k : ℕ) (x : A) → (k ≡ place → ⊥) → k < length xs
    → slice_get (with_at xs place x) k ≡ slice_get xs k
get-kept xs place k x differs there =
    ⊎_elim (λ within. ap (λ ys. slice_get ys k) (with_within xs place x within) ∙ get-set_other xs place k x differs)
    (λ past. ap (λ ys. slice_get ys k) (with_past xs place x past) ∙ get-append_left xs (replicate (place + 1 - length xs) x) k there)
    (cases_lt place (length xs))

-- and a place that had none
pub get-new : {A : Type 0} (xs : List A) (place k : ℕ) (x : A) → length xs ≤ k
    → (slice_get (with_at xs place x) k ≡ Some x) ⊎ (length (with_at xs place x) ≤ k)
get-new xs place k x past =
    ⊎_elim (λ h. inr (omega (arith, h.1)))
    (λ h. ⊎_elim (λ filled. inl (ap (λ ys. slice_get ys k) (with_past xs place x h.0)
    ∙ get-filled xs x (place + 1 - length xs) k past (omega (arith, h.0))))
    (λ beyond. inr (omega (arith, h.1)))
    (cases_lt k (place + 1)))
    (length-with_at xs place x)
