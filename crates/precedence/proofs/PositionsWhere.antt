-- The numbers of elements that pass a test: with the next element, and as a filter of all numbers.
use Rattle.std.proofs.Common.{◌≡◌, ℕ, suc, ◌+◌, ◌<◌, ◌≤◌, ◌==◌, ◌&&◌, Bool, true, false, List, [], ◌∷◌, ◌++◌, filter, length, length-take-le, take, get_or, refl, sym, ap, ◌∙◌, arith, if◌then◌else◌}
use Rattle.std.specs.List.{enumerate_from, range_with_len}
use Rattle.std.proofs.Math.Bool.{and-true}
use Rattle.std.proofs.lemmas.Bool.{eq-eqb, eqb-true}
use Rattle.std.proofs.lemmas.Bool.Decides.{nat_tests}
use Rattle.std.proofs.lemmas.List.{get_or_default, take_more}
use Rattle.std.proofs.lemmas.List.Elements.{All-filter}
use Rattle.std.proofs.lemmas.List.Folds.{list_any_at, list_any_none}
use Rattle.std.proofs.lemmas.List.FromFn.{get_or-range_with_len, length-range_with_len}
use Rattle.std.proofs.lemmas.Map.Views.{any-filter_same}
use Rattle.precedence.specs.Cone.{positions_where}
use Rattle.precedence.specs.IdRanges.{is_in}

numbered-append : {X : Type 0} (n : ℕ) (xs ys : List X)
    → enumerate_from n (xs ++ ys) ≡ enumerate_from n xs ++ enumerate_from (n + length xs) ys
numbered-append n [] ys = ap (λ k. enumerate_from k ys) (omega arith)
numbered-append n (x ∷ xs) ys =
    ap (λ rest. (n, x) ∷ rest) (numbered-append (n + 1) xs ys ∙ ap (λ k. enumerate_from (n + 1) xs ++ enumerate_from k ys) (omega arith))

-- the next element, with its number
pub numbered_more : {X : Type 0} (xs : List X) (i : ℕ) (x : X) → i < length xs → x ≡ get_or xs i x
    → enumerate_from 0 (take (i + 1) xs) ≡ enumerate_from 0 (take i xs) ++ (i, x) ∷ []
numbered_more xs i x h is =
    let at : 0 + length (take i xs) ≡ i = omega (arith, length-take-le i xs (omega arith)) in
    ap (enumerate_from 0) (take_more xs i x h ∙ ap (λ y. take i xs ++ y ∷ []) (sym is))
    ∙ numbered-append 0 (take i xs) (x ∷ []) ∙ ap (λ k. enumerate_from 0 (take i xs) ++ (k, x) ∷ []) at

pub nowhere : {X : Type 0} (n : ℕ) (xs : List X) → positions_where (λ x. false) n xs ≡ []
nowhere n [] = refl
nowhere n (x ∷ xs) = nowhere (n + 1) xs

pub where_filter : {X : Type 0} (test : X → Bool) (t : ℕ → Bool) (n : ℕ) (xs : List X)
    → ((i : ℕ) (d : X) → i < length xs → test (get_or xs i d) ≡ t (n + i))
    → positions_where test n xs ≡ filter t (range_with_len n (length xs))
where_filter test t n [] h = refl
where_filter test t n (x ∷ xs) h =
    let here : n + 0 ≡ n = omega arith in
    let first : test x ≡ t n = h 0 x (omega arith) ∙ ap t here in
    let rest = where_filter test t (n + 1) xs (λ i d lt.
    let next : n + suc i ≡ (n + 1) + i = omega arith in h (suc i) d (omega arith) ∙ ap t next) in
    λ j. if first j then n ∷ rest j else rest j

-- a default for elements beyond the end
pub where_at : {X : Type 0} (test : X → Bool) (d : X) (xs : List X)
    → positions_where test 0 xs ≡ filter (λ k. test (get_or xs k d)) (range_with_len 0 (length xs))
where_at test d xs = where_filter test (λ k. test (get_or xs k d)) 0 xs (λ i e lt.
    let here : i ≡ 0 + i = omega arith in ap test (get_or_default xs i e d lt ∙ ap (λ k. get_or xs k d) here))

-- no more numbers than elements
pub length-positions_where : {X : Type 0} (test : X → Bool) (n : ℕ) (xs : List X) → length (positions_where test n xs) ≤ length xs
length-positions_where test n [] = omega arith
length-positions_where test n (x ∷ xs) = one (test x) (length-positions_where test (n + 1) xs)
  where
    one : (t : Bool) → length (positions_where test (n + 1) xs) ≤ length xs
        → length (if t then n ∷ positions_where test (n + 1) xs else positions_where test (n + 1) xs) ≤ length (x ∷ xs)
    one true rest = omega (arith, rest)
    one false rest = omega (arith, rest)

-- ---- members

-- exactly the numbers of elements that pass
pub exact_where : {X : Type 0} (test : X → Bool) (k : ℕ) (xs : List X) (d : X) → k < length xs
    → is_in (positions_where test 0 xs) k ≡ test (get_or xs k d)
exact_where test k xs d lt =
    let all = range_with_len 0 (length xs) in
    let at : get_or all k 0 ≡ k = omega (arith, get_or-range_with_len 0 (length xs) k 0 lt) in
    let own : is_in all k ≡ true = list_any_at (λ m. m == k) all k 0 (omega (arith, lt, length-range_with_len 0 (length xs))) (eq-eqb _ _ at) in
    ap (λ ids. is_in ids k) (where_at test d xs)
    ∙ any-filter_same (λ m. m == k) (λ m. test (get_or xs m d)) (test (get_or xs k d)) (λ m is. ap (λ n. test (get_or xs n d)) (eqb-true _ _ is)) all
    ∙ ap (λ b. test (get_or xs k d) && b) own ∙ and-true (test (get_or xs k d))

pub exact_nowhere : {X : Type 0} (test : X → Bool) (k : ℕ) (xs : List X) (d : X) → length xs ≤ k → is_in (positions_where test 0 xs) k ≡ false
exact_nowhere test k xs d le =
    ap (λ ids. is_in ids k) (where_at test d xs)
    ∙ list_any_none (λ m. m == k) _ (All-filter (λ m. test (get_or xs m d)) (λ m. (m == k) ≡ false) (range_with_len 0 (length xs)) (λ i e lt.
    let at = get_or-range_with_len 0 (length xs) i e (omega (arith, lt, length-range_with_len 0 (length xs))) in
    let less : get_or (range_with_len 0 (length xs)) i e < k = omega (arith, at, lt, le, length-range_with_len 0 (length xs)) in
    grind (arith, nat_tests)))
