-- Worths that the destinations before a place have answered.
use Rattle.std.proofs.Common.{◌≡◌, ℕ, zero, suc, ◌+◌, ◌<◌, List, [], ◌∷◌, length, take, slice_index_or, slice_set, arith, subst}
use Rattle.std.specs.List.{All, AllZip}
use Rattle.std.proofs.lemmas.List.Elements.{All-cons, All-nil, All-tail}

-- one more worth, set at the next place, is what the destination there answered
set_next : {A B : Type 0} (R : A → B → Type 0) (n : ℕ) (xs : List A) (ys : List B) (d : A) (y : B)
    → n < length xs → n < length ys → R (slice_index_or xs n d) y → AllZip R (take n xs) (take n ys)
    → AllZip R (take (suc n) xs) (take (suc n) (slice_set ys n y))
set_next R n [] ys d y few room is so_far = absurd (omega (arith, few))
set_next R n (x ∷ xs) [] d y few room is so_far = absurd (omega (arith, room))
set_next R zero (x ∷ xs) (z ∷ ys) d y few room is so_far = (is, tt)
set_next R (suc n) (x ∷ xs) (z ∷ ys) d y few room is so_far =
    (so_far.0, set_next R n xs ys d y (omega (arith, few)) (omega (arith, room)) is so_far.1)

pub answered_next : {A B : Type 0} (R : A → B → Type 0) (n : ℕ) (xs : List A) (ys : List B) (d : A) (y : B)
    → n < length xs → n < length ys → R (slice_index_or xs n d) y → AllZip R (take n xs) (take n ys)
    → AllZip R (take (n + 1) xs) (take (n + 1) (slice_set ys n y))
answered_next R n xs ys d y few room is so_far =
    let next : suc n ≡ n + 1 = omega arith in
    subst (λ m. AllZip R (take m xs) (take m (slice_set ys n y))) next (set_next R n xs ys d y few room is so_far)

-- one more worth, set at the next place, holds what the others hold
set_all : {B : Type 0} (P : B → Type 0) (n : ℕ) (ys : List B) (y : B) → n < length ys → P y → All P (take n ys)
    → All P (take (suc n) (slice_set ys n y))
set_all P n [] y room is so_far = absurd (omega (arith, room))
set_all P zero (z ∷ ys) y room is so_far = All-cons P y [] is (All-nil P)
set_all P (suc n) (z ∷ ys) y room is so_far =
    All-cons P z (take (suc n) (slice_set ys n y)) (so_far 0 z (omega arith))
    (set_all P n ys y (omega (arith, room)) is (All-tail P z (take n ys) so_far))

pub all_next : {B : Type 0} (P : B → Type 0) (n : ℕ) (ys : List B) (y : B) → n < length ys → P y → All P (take n ys)
    → All P (take (n + 1) (slice_set ys n y))
all_next P n ys y room is so_far =
    let next : suc n ≡ n + 1 = omega arith in
    subst (λ m. All P (take m (slice_set ys n y))) next (set_all P n ys y room is so_far)
