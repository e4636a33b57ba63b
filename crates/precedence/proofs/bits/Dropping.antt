-- Lanes that are dropped in several steps.
use Rattle.std.proofs.Common.{◌≡◌, ℕ, ◌+◌, ◌<◌, ◌≤◌, true, false, inl, inr, ⊎_elim, subst, arith}
use Rattle.std.proofs.lemmas.Bool.{cases_Bool, cases_lt, both_ways}
use Rattle.precedence.specs.inner.lanes.Bits.{has_bit}
use Rattle.precedence.specs.inner.lanes.Windows.{Drops, MayDrop}
use Rattle.precedence.proofs.bits.Gathered.{HasSome}

-- equivalent reasons
pub drops_so : {A B : ℕ → Type 0} {lanes rest : ℕ} → ((i : ℕ) → A i → B i) → ((i : ℕ) → B i → A i) → Drops A lanes rest → Drops B lanes rest
drops_so there back drops = record {
  may = record {
    among = drops.may.among;
    dropped = λ i lane. ⊎_elim (λ here. inl here) (λ why. inr (there i why)) (drops.may.dropped i lane);
  };
  none = λ i here why. drops.none i here (back i why);
}

pub may_so : {A B : ℕ → Type 0} {lanes rest : ℕ} → ((i : ℕ) → A i → B i) → MayDrop A lanes rest → MayDrop B lanes rest
may_so there drops = record {
  among = drops.among;
  dropped = λ i lane. ⊎_elim (λ here. inl here) (λ why. inr (there i why)) (drops.dropped i lane);
}

-- no lanes are dropped without a reason
pub drops_none : (A : ℕ → Type 0) (lanes : ℕ) → ((i : ℕ) → A i → ⊥) → Drops A lanes lanes
drops_none A lanes no_reason = record {
  may = record { among = λ i here. here; dropped = λ i here. inl here };
  none = λ i here why. no_reason i why;
}

-- the lanes without the bits of some offsets
pub drops_some : (lanes word first len rest : ℕ)
    → ((i : ℕ) → has_bit rest i ≡ true → has_bit lanes i ≡ true)
    → ((i at : ℕ) → has_bit rest i ≡ true → first ≤ at → at < first + len → has_bit word (i + at) ≡ false)
    → ((i : ℕ) → has_bit lanes i ≡ true → has_bit rest i ≡ false → HasSome word first len i)
    → Drops (HasSome word first len) lanes rest
drops_some lanes word first len rest among none dropped = record {
  may = record {
    among = among;
    dropped = λ i lane. ⊎_elim (λ here. inl here) (λ gone. inr (dropped i lane gone)) (cases_Bool (has_bit rest i));
  };
  none = λ i here why. both_ways _ (none i why.0 here why.1 why.2) why.3;
}

-- ---- reasons by numbers, one after the other

-- one of the numbers from `low` to `up` (exclusive) is a reason
abbrev pub Among : (ℕ → ℕ → Type 0) → (low up i : ℕ) → Type 0
Among P low up i = (n : ℕ) × (low ≤ n) × (n < up) × P n i

module _ (P : ℕ → ℕ → Type 0) (low : ℕ) where
  pub drops_first : (lanes : ℕ) → Drops (Among P low low) lanes lanes
  drops_first lanes = drops_none (Among P low low) lanes (λ i why. omega (arith, why.1, why.2))

  -- the next number
  pub drops_next : {lanes mid rest : ℕ} (up : ℕ) → low ≤ up → Drops (Among P low up) lanes mid → Drops (P up) mid rest → Drops (Among P low (up + 1)) lanes rest
  drops_next up le one two = record {
    may = record {
      among = λ i there. one.may.among i (two.may.among i there);
      dropped = λ i lane. ⊎_elim
          (λ here. ⊎_elim (λ still. inl still) (λ why. inr (up, le, omega arith, why)) (two.may.dropped i here))
          (λ why. inr (why.0, why.1, omega (arith, why.2), why.3))
          (one.may.dropped i lane);
    };
    none = λ i there why. ⊎_elim
        (λ less. one.none i (two.may.among i there) (why.0, why.1, less, why.3))
        (λ le. let same : why.0 ≡ up = omega (arith, le, why.2) in two.none i there (subst (λ n. P n i) same why.3))
        (cases_lt why.0 up);
  }

  -- numbers that are no reasons
  pub drops_past : {lanes rest : ℕ} (up to : ℕ) → up ≤ to → ((n i : ℕ) → up ≤ n → n < to → P n i → ⊥) → Drops (Among P low up) lanes rest
      → Drops (Among P low to) lanes rest
  drops_past up to le others = drops_so
      (λ i why. (why.0, why.1, omega (arith, why.2, le), why.3))
      (λ i why. ⊎_elim (λ less. (why.0, why.1, less, why.3)) (λ from. absurd (others why.0 i from why.2 why.3)) (cases_lt why.0 up))

-- all numbers, if no later one is a reason
pub drops_all : (P : ℕ → ℕ → Type 0) {lanes rest : ℕ} (up : ℕ) → ((n i : ℕ) → up ≤ n → P n i → ⊥) → Drops (Among P 0 up) lanes rest
    → Drops (λ i. (n : ℕ) × P n i) lanes rest
drops_all P up others = drops_so
    (λ i why. (why.0, why.3))
    (λ i why. ⊎_elim (λ less. (why.0, omega arith, less, why.1)) (λ from. absurd (others why.0 i from why.1)) (cases_lt why.0 up))
