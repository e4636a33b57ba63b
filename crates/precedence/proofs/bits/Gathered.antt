-- Bits gathered from offsets that follow one another.
use Rattle.std.proofs.Common.{◌≡◌, ℕ, ◌+◌, ◌-◌, ◌/◌, ◌^◌, ◌<◌, ◌≤◌, true, bit_or, ⊎_elim, sym, ap, ◌∙◌, arith}
use Rattle.std.proofs.lemmas.Bool.{cases_lt, or_cases, or_left, or_right}
use Rattle.precedence.specs.inner.lanes.Bits.{has_bit}
use Rattle.precedence.proofs.bits.Words.{has_bit_or, has_bit_shr}

-- the word has a bit at i plus one of the `len` offsets from `first` on
abbrev pub HasSome : (word first len i : ℕ) → Type 0
HasSome word first len i = (at : ℕ) × (first ≤ at) × (at < first + len) × (has_bit word (i + at) ≡ true)

-- `seen` has exactly these bits
pub record Gathers (word first len seen : ℕ) : Type 0 where
  pub some : (i : ℕ) → has_bit seen i ≡ true → HasSome word first len i
  pub all : (i at : ℕ) → first ≤ at → at < first + len → has_bit word (i + at) ≡ true → has_bit seen i ≡ true

pub gathers_one : (word first : ℕ) → Gathers word first 1 (word / 2 ^ first)
gathers_one word first = record {
  some = λ i yes. (first, omega arith, omega arith, sym (has_bit_shr word first i) ∙ yes);
  all = λ i at low up yes. let e : at ≡ first = omega arith in has_bit_shr word first i ∙ ap (λ j. has_bit word (i + j)) (sym e) ∙ yes;
}

-- the bits for up to `len` more offsets
pub gathers_more : (word first len step seen : ℕ) → step ≤ len → Gathers word first len seen → Gathers word first (len + step) (bit_or seen (seen / 2 ^ step))
gathers_more word first len step seen few old = record {
  some = λ i yes. ⊎_elim
      (λ here. let h = old.some i here in (h.0, h.1, omega (arith, h.2), h.3))
      (λ there.
      let h = old.some (i + step) (sym (has_bit_shr seen step i) ∙ there) in
      let e : i + step + h.0 ≡ i + (step + h.0) = omega arith in
      (step + h.0, omega (arith, h.1), omega (arith, h.2), sym (ap (has_bit word) e) ∙ h.3))
      (or_cases _ _ (sym (has_bit_or seen (seen / 2 ^ step) i) ∙ yes));
  all = λ i at low up yes. has_bit_or seen (seen / 2 ^ step) i ∙ ⊎_elim
      (λ here. or_left _ _ (old.all i at low here yes))
      (λ there.
      let e : i + step + (at - step) ≡ i + at = omega arith in
      or_right _ _ (has_bit_shr seen step i ∙ old.all (i + step) (at - step) (omega arith) (omega arith) (ap (has_bit word) e ∙ yes)))
      (cases_lt at (first + len));
}
