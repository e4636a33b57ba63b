-- A relation between the pairs of a list up to a place, and up to the next place.
use Rattle.std.proofs.Common.{◌≡◌, ◌≢◌, ◌↔◌, ℕ, zero, refl, ◌+◌, ◌<◌, Bool, true, false, List, [], ◌∷◌, ◌++◌, All, AllPairs, length, map, nat_lt, take, get_or, suc, sym, ◌∙◌, subst, arith, inl, inr, get_or-take, length-take-le}
use Rattle.std.specs.Bool.{IsTrue}
use Rattle.std.specs.List.{AllAdjacentBelow, IsAllAdjacentAnswer}
use Rattle.std.proofs.lemmas.Bool.{cases_lt, false≢true, ltb-true}
use Rattle.std.proofs.lemmas.List.{get_or-map, get_or_default, length-map}
use Rattle.std.proofs.lemmas.List.Elements.{All-append, All-head, All-tail}
use Rattle.std.proofs.lemmas.List.Kept.{AllPairs-cons}
use Rattle.mine_instance.specs.Valid.{ArePreds, ArePredsOf}

-- up to the next place, if its element is in the relation with all elements before it
pairs_more : {T : Type 0} (R : T → T → Type 0) (xs : List T) (n : ℕ)
    → ((i j : ℕ) (d : T) → i < j → j < n → R (get_or xs i d) (get_or xs j d))
    → ((i : ℕ) (d : T) → i < n → R (get_or xs i d) (get_or xs n d))
    → (i j : ℕ) (d : T) → i < j → j < n + 1 → R (get_or xs i d) (get_or xs j d)
pairs_more R xs n before new i j d below high = elim (cases_lt j n) [
  | inl h ↦ before i j d below h
  | inr h ↦ (
      let P : ℕ → Type 0 = λ m. R (get_or xs i d) (get_or xs m d) in
      let same : n ≡ j = omega arith in
      subst P same (new i d (omega arith))
      )
]

-- if an order is transitive, a list with rising neighbours rises
rise_apart : {T : Type 0} (R : T → T → Type 0) (xs : List T) → ((x y z : T) → R x y → R y z → R x z)
    → AllAdjacentBelow R xs (length xs) → (j i : ℕ) (d : T) → i < j → j < length xs → R (get_or xs i d) (get_or xs j d)
rise_apart R xs transitive next zero i d low high = absurd (omega arith)
rise_apart R xs transitive next (suc m) i d low high =
    let more : m + 1 ≡ suc m = omega arith in
    let step : R (get_or xs m d) (get_or xs (suc m) d) = subst (λ k. R (get_or xs m d) (get_or xs k d)) more (next m d (omega arith)) in
    elim (cases_lt i m) [
      | inl h ↦ transitive _ _ _ (rise_apart R xs transitive next m i d h (omega arith)) step
      | inr h ↦ (let same : m ≡ i = omega arith in subst (λ k. R (get_or xs k d) (get_or xs (suc m) d)) same step)
    ]

-- so a test of neighbours decides whether the list rises
pub rises_decided : {T : Type 0} (before : T → T → Bool) (xs : List T) (r : Bool)
    → ((x y z : T) → IsTrue (before x y) → IsTrue (before y z) → IsTrue (before x z))
    → IsAllAdjacentAnswer (λ x y t. t ≡ before x y) xs r → IsTrue r ↔ AllPairs (λ x y. IsTrue (before x y)) xs
rises_decided before xs true transitive reported = (
  λ always i j d low high. rise_apart (λ x y. IsTrue (before x y)) xs transitive (λ k e below. sym (reported k e below)) j i d low high,
  λ all. refl,
)
rises_decided before [] false transitive reported = absurd (omega (arith, reported.1))
rises_decided before (x ∷ xs) false transitive reported =
    (λ never. absurd (false≢true never), λ all. reported.2 x ∙ all reported.0 (reported.0 + 1) x (omega arith) reported.1)

-- a rejected list
pub one_refused : (n id : ℕ) (preds : List (List ℕ)) (ids : List ℕ) (r : Bool) → id < length preds → ids ≡ get_or preds id []
    → (ArePredsOf id n ids → r ≡ true) → r ≡ false → ArePreds n preds → false ≡ true
one_refused n id preds ids r within is says refused all =
    sym refused ∙ says (rw is (all id within))

-- a place whose identifier appeared before
pub repeat_refused : (ids : List ℕ) (n x : ℕ) (r : Bool) → n < length ids → x ≡ get_or ids n x
    → (All (λ other. other ≢ x) (take n ids) → r ≡ true) → r ≡ false → AllPairs (λ id other. id ≢ other) ids → false ≡ true
repeat_refused ids n x r within is says refused all = sym refused ∙ says (λ k d h same.
    let below : k < n = omega (arith, length-take-le n ids (omega arith)) in
    all k n x below within (sym (get_or-take n ids k x below) ∙ get_or_default (take n ids) k x d h ∙ same ∙ is))

-- the next place, whose identifier differs from all earlier ones
pub distinct_more : (ids : List ℕ) (n x : ℕ) → n < length ids → x ≡ get_or ids n x → All (λ other. other ≢ x) (take n ids)
    → ((i j d : ℕ) → i < j → j < n → get_or ids i d ≢ get_or ids j d)
    → (i j d : ℕ) → i < j → j < n + 1 → get_or ids i d ≢ get_or ids j d
distinct_more ids n x within is new before = pairs_more (λ id other. id ≢ other) ids n before (λ i d low same.
    new i d (omega (arith, length-take-le n ids (omega arith))) (get_or-take n ids i d low ∙ same ∙ get_or_default ids n d x within ∙ sym is))

-- rising numbers are distinct
pub rising_differ : (ids : List ℕ) → AllPairs (λ n m. n < m) ids → AllPairs (λ id other. id ≢ other) ids
rising_differ ids rising i j d h k same = let less : get_or ids i d < get_or ids j d = rising i j d h k in omega arith

-- the same if a test shows that they rise
pub decided_differ : (ids : List ℕ) → AllPairs (λ n m. IsTrue (nat_lt n m)) ids → AllPairs (λ id other. id ≢ other) ids
decided_differ ids rising = rising_differ ids (λ i j d low high. ltb-true _ _ (rising i j d low high))

-- pairs of two concatenated lists
pub pairs_append : {X : Type 0} (R : X → X → Type 0) (xs ys : List X) → AllPairs R xs → AllPairs R ys → All (λ x. All (R x) ys) xs
    → AllPairs R (xs ++ ys)
pairs_append R [] ys rise rest across = rest
pairs_append R (x ∷ xs) ys rise rest across =
    AllPairs-cons R x (xs ++ ys)
    (All-append (R x) xs ys (λ k d h. rise 0 (suc k) d (omega arith) (omega arith)) (All-head (λ z. All (R z) ys) x xs across))
    (pairs_append R xs ys (λ i j d h k. rise (suc i) (suc j) d (omega arith) (omega arith)) rest (All-tail (λ z. All (R z) ys) x xs across))

-- a map keeps an order
pub pairs_map : {X Y : Type 0} (R : Y → Y → Type 0) (f : X → Y) (xs : List X) → AllPairs (λ x y. R (f x) (f y)) xs → AllPairs R (map f xs)
pairs_map R f [] rise = λ i j d h k. absurd (omega arith)
pairs_map R f (x ∷ xs) rise = λ i j d h k.
    let high : j < length (x ∷ xs) = omega (arith, length-map (x ∷ xs) f) in
    let low : i < length (x ∷ xs) = omega arith in
    rw (get_or-map f (x ∷ xs) i x d low, get_or-map f (x ∷ xs) j x d high) (rise i j x h high)
