-- Lists and functions on numbers, with an element appended or a value changed.
use Rattle.std.proofs.Common.{◌≡◌, ℕ, zero, suc, ◌+◌, ◌<◌, ◌≤◌, Bool, true, false, cond, ◌==◌, List, [], ◌∷◌, ◌++◌, length, drop, slice_get, Some, refl, sym, ap, subst, arith, count_by}
use Rattle.std.proofs.Common.{⊎_elim}
use Rattle.std.specs.List.{AllByRecursion}
use Rattle.std.proofs.lemmas.Bool.{eqb-true, eqb-false, eq-eqb, ne_eqb, cases_eq}
use Rattle.std.proofs.lemmas.List.Sums.{sum_by_push, sum_by-cons}
use Rattle.lane.specs.Machine.{with_at}
use Rattle.lane.specs.Lawful.{over}

module _ {A : Type 0} where
  pub all_more : (P : A → Type 0) (xs : List A) (y : A) → AllByRecursion P xs → P y → AllByRecursion P (xs ++ y ∷ [])
  all_more P [] y h p = (p, tt)
  all_more P (x ∷ xs) y h p = (h.0, all_more P xs y h.1 p)

  pub all_weaker : (P Q : A → Type 0) → ((x : A) → P x → Q x) → (xs : List A) → AllByRecursion P xs → AllByRecursion Q xs
  all_weaker P Q f [] h = tt
  all_weaker P Q f (x ∷ xs) h = (f x h.0, all_weaker P Q f xs h.1)

  -- what is true of all elements is true at each index, and the other way round
  pub all_get : (P : A → Type 0) (xs : List A) (i : ℕ) (x : A) → AllByRecursion P xs → slice_get xs i ≡ Some x → P x
  all_get P [] i x h e = absurd (cc)
  all_get P (y ∷ xs) zero x h e = let q : y ≡ x = cc in subst P q h.0
  all_get P (y ∷ xs) (suc i) x h e = all_get P xs i x h.1 e

  pub all_at : (P : A → Type 0) (xs : List A) → ((i : ℕ) (x : A) → slice_get xs i ≡ Some x → P x) → AllByRecursion P xs
  all_at P [] h = tt
  all_at P (x ∷ xs) h = (h 0 x refl, all_at P xs (λ i y e. h (suc i) y e))

  pub some_at : (xs : List A) (i : ℕ) → i < length xs → (x : A) × (slice_get xs i ≡ Some x)
  some_at [] i l = absurd (omega arith)
  some_at (x ∷ xs) zero l = (x, refl)
  some_at (x ∷ xs) (suc i) l = some_at xs i (omega arith)

  pub get_more : (xs ys : List A) (i : ℕ) (x : A) → slice_get xs i ≡ Some x → slice_get (xs ++ ys) i ≡ Some x
  get_more [] ys i x e = absurd (cc)
  get_more (y ∷ xs) ys zero x e = e
  get_more (y ∷ xs) ys (suc i) x e = get_more xs ys i x e

  -- the prefix of the list without its first k elements
  pub drop_front : (xs : List A) (k : ℕ) (x : A) (rest : List A) → drop k xs ≡ x ∷ rest → (slice_get xs k ≡ Some x)
      × (drop (suc k) xs ≡ rest) × (k < length xs)
  drop_front [] zero x rest e = absurd (cc)
  drop_front [] (suc k) x rest e = absurd (cc)
  drop_front (y ∷ xs) zero x rest e = let a : y ≡ x = cc in let b : xs ≡ rest = cc in (ap Some a, b, omega arith)
  drop_front (y ∷ xs) (suc k) x rest e = let r = drop_front xs k x rest e in (r.0, r.1, omega (arith, r.2))

  pub count_more : (p : A → Bool) (xs : List A) (x : A) → count_by p (xs ++ x ∷ []) ≡ count_by p xs + cond (p x) 1 0
  count_more p xs x = sum_by_push (λ (y : A). cond (p y) 1 0) xs x

  pub count_front : (p : A → Bool) (x : A) (xs : List A) → count_by p (x ∷ xs) ≡ cond (p x) 1 0 + count_by p xs
  count_front p x xs = sum_by-cons (λ (y : A). cond (p y) 1 0) x xs

with_at_cases : {A : Type 0} (P : ℕ → A → Type 0) (g : ℕ → A) (k : ℕ) (x : A) → P k x → ((j : ℕ) → (j ≡ k → ⊥) → P j (g j))
    → (j : ℕ) (b : Bool) → (j == k) ≡ b → P j (cond b x (g j))
with_at_cases P g k x here else j true e = subst (λ i. P i x) (sym (eqb-true j k e)) here
with_at_cases P g k x here else j false e = else j (eqb-false j k e)

-- what is true of x at k and of g elsewhere
pub with_at_all : {A : Type 0} (P : ℕ → A → Type 0) (g : ℕ → A) (k : ℕ) (x : A) → P k x → ((j : ℕ) → (j ≡ k → ⊥) → P j (g j)) → (j : ℕ)
    → P j (with_at g k x j)
with_at_all P g k x here else j = with_at_cases P g k x here else j (j == k) refl

pub over_zero : (n : ℕ) (g : ℕ → ℕ) → ((k : ℕ) → g k ≡ 0) → over n g ≡ 0
over_zero zero g z = refl
over_zero (suc n) g z = omega (arith, over_zero n g z, z n)

pub over_same : (n : ℕ) (g h : ℕ → ℕ) → ((k : ℕ) → k < n → g k ≡ h k) → over n g ≡ over n h
over_same zero g h z = refl
over_same (suc n) g h z = let r = over_same n g h (λ k l. z k (omega arith)) in omega (arith, r, z n (omega arith))

pub over_le : (n : ℕ) (g : ℕ → ℕ) (k : ℕ) → k < n → g k ≤ over n g
over_le zero g k l = absurd (omega arith)
over_le (suc n) g k l =
    ⊎_elim (λ (e : k ≡ n). let same : g k ≡ g n = ap g e in let goal : g k ≤ over n g + g n = omega arith in goal)
    (λ (ne : k ≡ n → ⊥). let below : g k ≤ over n g = over_le n g k (omega arith) in let goal : g k ≤ over n g + g n = omega arith in goal)
    (cases_eq k n)

pub with_at_here : {A : Type 0} (g : ℕ → A) (k : ℕ) (x : A) → with_at g k x k ≡ x
with_at_here {A} g k x = ap (λ (b : Bool). cond b x (g k)) (eq-eqb k k refl)

pub with_at_else : {A : Type 0} (g : ℕ → A) (k : ℕ) (x : A) (j : ℕ) → (j ≡ k → ⊥) → with_at g k x j ≡ g j
with_at_else {A} g k x j ne = ap (λ (b : Bool). cond b x (g j)) (ne_eqb j k ne)

-- a sum after a change at one number
pub over_at : {A : Type 0} (F : A → ℕ) (n : ℕ) (g : ℕ → A) (k : ℕ) (x : A) → k < n
    → over n (λ j. F (with_at g k x j)) + F (g k) ≡ over n (λ j. F (g j)) + F x
over_at F zero g k x l = absurd (omega arith)
over_at {A} F (suc n) g k x l =
    ⊎_elim
    (λ (e : k ≡ n). omega (
      arith,
      over_same n (λ j. F (with_at g k x j)) (λ j. F (g j)) (λ j below. ap F (with_at_else g k x j (λ q. omega arith))),
      subst (λ i. F (with_at g k x i) ≡ F x) e (ap F (with_at_here g k x)),
      ap (λ i. F (g i)) e,
    ))
    (λ (ne : k ≡ n → ⊥). omega (arith, over_at F n g k x (omega arith), ap F (with_at_else g k x n (λ q. ne (sym q)))))
    (cases_eq k n)
