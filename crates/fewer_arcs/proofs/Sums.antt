-- Sums over blocks.
use Rattle.std.proofs.Common.{◌≡◌, ℕ, zero, suc, ◌+◌, ◌*◌, ℤ, pos, ◌+ℤ◌, ◌*ℤ◌, ◌≤ℤ◌, arith, refl}
use Rattle.std.proofs.lemmas.Int.{ints}
use Rattle.std.proofs.Math.IntN.{suc_ℤ-*ℤ, zero-*ℤ}
use Rattle.fewer_arcs.specs.Optima.{sum}

pub one_more : (a : ℕ) (v : ℤ) → pos (suc a) *ℤ v ≡ pos a *ℤ v +ℤ v
one_more a v = suc_ℤ-*ℤ (pos a) v

pub none_of : (v : ℤ) → pos 0 *ℤ v ≡ pos 0
none_of v = zero-*ℤ v

pub times_sum : (a : ℕ) (u v : ℤ) → pos a *ℤ (u +ℤ v) ≡ pos a *ℤ u +ℤ pos a *ℤ v
times_sum zero u v = omega (arith, ints, none_of (u +ℤ v), none_of u, none_of v)
times_sum (suc a) u v = omega (arith, ints, one_more a (u +ℤ v), one_more a u, one_more a v, times_sum a u v)

pub times_more : (a b : ℕ) (v : ℤ) → pos (a + b) *ℤ v ≡ pos a *ℤ v +ℤ pos b *ℤ v
times_more zero b v = omega (arith, ints, none_of v)
times_more (suc a) b v = omega (arith, ints, one_more (a + b) v, one_more a v, times_more a b v)

pub times_mono : (a : ℕ) (u v : ℤ) → u ≤ℤ v → (pos a *ℤ u) ≤ℤ (pos a *ℤ v)
times_mono zero u v le = omega (arith, ints, none_of u, none_of v)
times_mono (suc a) u v le = omega (arith, ints, one_more a u, one_more a v, times_mono a u v le, le)

pub times_times : (a b : ℕ) (v : ℤ) → pos (a * b) *ℤ v ≡ pos a *ℤ (pos b *ℤ v)
times_times zero b v = omega (arith, ints, none_of v, none_of (pos b *ℤ v))
times_times (suc a) b v = omega (arith, ints, times_more b (a * b) v, one_more a (pos b *ℤ v), times_times a b v)

pub sum_same : (n : ℕ) (f g : ℕ → ℤ) → ((b : ℕ) → f b ≡ g b) → sum n f ≡ sum n g
sum_same zero f g same = refl
sum_same (suc n) f g same = omega (arith, ints, sum_same n f g same, same n)

pub sum_le : (n : ℕ) (f g : ℕ → ℤ) → ((b : ℕ) → (f b) ≤ℤ (g b)) → (sum n f) ≤ℤ (sum n g)
sum_le zero f g le = omega (arith, ints)
sum_le (suc n) f g le = omega (arith, ints, sum_le n f g le, le n)

pub sum_of_two : (n : ℕ) (f g : ℕ → ℤ) → sum n (λ b. f b +ℤ g b) ≡ sum n f +ℤ sum n g
sum_of_two zero f g = omega (arith, ints)
sum_of_two (suc n) f g = omega (arith, ints, sum_of_two n f g)

pub sum_times : (n a : ℕ) (f : ℕ → ℤ) → sum n (λ b. pos a *ℤ f b) ≡ pos a *ℤ sum n f
sum_times zero a f = none a
  where
    none : (a : ℕ) → pos 0 ≡ pos a *ℤ pos 0
    none zero = refl
    none (suc a) = omega (arith, ints, one_more a (pos 0), none a)
sum_times (suc n) a f = omega (arith, ints, sum_times n a f, times_sum a (sum n f) (f n))
