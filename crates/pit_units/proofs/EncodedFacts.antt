-- A number in a range is read exactly if a text encodes it, and so are the integers and the sizes that readers derive from it.
use Rattle.std.specs.Prelude.{◌≡◌, ℕ, ◌*◌, ◌/◌, ◌%◌, ◌^◌, ◌≤◌, ◌&&◌, Bool, true, false, List, ℤ, pos, negsuc, ◌≤ℤ◌, ◌-ℤ◌, int_le, unsigned_abs, Result, Ok, Err, if◌then◌else◌}
use Rattle.std.proofs.Common.{refl, subst, arith}
use Rattle.std.proofs.lemmas.Bool.{and_parts}
use Rattle.std.proofs.lemmas.Int.{ints}
use Rattle.pit_units.proofs.Exactly.{Exactly, made}
use Rattle.pit_units.proofs.Multiples.{stands_multiple}
use Rattle.pit_units.proofs.Standing.{read_stands, stands_read}
use Rattle.pit_units.specs.Decimal.{decimal_of, decimal_within, within_bounds}
use Rattle.pit_units.specs.EncodedNumbers.{EncodesBelow, EncodesInteger, EncodesNumber, EncodesSize}
use Rattle.pit_units.specs.StandsFor.{StandsFor}
use Rattle.pit_units.specs.Steps.{◌>>=◌}
use Rattle.pit_units.specs.declared.fault.DecFault.{DecFault}
use Rattle.pit_units.specs.declared.fault.DecFault.TheVariants as dec

pub within_stands : (decimals : ℕ) (low high : ℤ) (text : List ℕ) (m : ℤ) → decimals ≤ 6 → decimal_within decimals low high text ≡ Ok m
    → EncodesNumber decimals low high text m
unfolding decimal_within
within_stands decimals low high text m few = by (decimal_of decimals text) refl
  where
    on : (n : ℤ) → decimal_of decimals text ≡ Ok n → (t : Bool) → (int_le low n && int_le n high) ≡ t
        → ◌≡◌ {A = Result ℤ DecFault} (if t then Ok n else Err dec.Range) (Ok m) → EncodesNumber decimals low high text m
    on n read true within e =
        let same : n ≡ m = cc in
        let parts = and_parts (int_le low n) (int_le n high) within in
        let from : low ≤ℤ n = grind (arith, ints) in
        let to : n ≤ℤ high = grind (arith, ints) in
        (subst (StandsFor decimals text) same (read_stands decimals text n few read), subst (λ z. low ≤ℤ z) same from, subst (λ z. z ≤ℤ high) same to)
    on n read false within e = absurd cc

    by : (d : Result ℤ DecFault) → decimal_of decimals text ≡ d → within_bounds low high d ≡ Ok m → EncodesNumber decimals low high text m
    by (Ok n) read e = on n read (int_le low n && int_le n high) refl e
    by (Err fault) read e = absurd cc

pub stands_within : (decimals : ℕ) (low high : ℤ) (text : List ℕ) (m : ℤ) → decimals ≤ 6 → EncodesNumber decimals low high text m
    → decimal_within decimals low high text ≡ Ok m
unfolding decimal_within
stands_within decimals low high text m few encodes =
    let above : int_le low m ≡ true = grind (arith, ints, encodes.1) in
    let below : int_le m high ≡ true = grind (arith, ints, encodes.2) in
    rw (stands_read decimals text m few encodes.0, above, below) refl

pub within : (decimals : ℕ) (low high : ℤ) (text : List ℕ) → decimals ≤ 6
    → Exactly (decimal_within decimals low high text) (EncodesNumber decimals low high text)
within decimals low high text few =
    record { reported = λ m e. within_stands decimals low high text m few e; back = λ m h. stands_within decimals low high text m few h }

-- the value that a reader derives from such a number, whatever its names for the errors
module _ {F : Type 0} (text : List ℕ) where
  pub integer_of_number : {r : Result ℤ F} (low high : ℕ) → Exactly r (EncodesNumber 0 (pos (low * 10 ^ 6)) (pos (high * 10 ^ 6)) text)
      → Exactly (r >>= λ m. Ok (unsigned_abs m / 10 ^ 6)) (EncodesInteger low high text)
  integer_of_number low high number =
      made (λ m. unsigned_abs m / 10 ^ 6) number to
      (λ n h. (pos (n * 10 ^ 6), (h.0, omega (arith, ints, h.1), omega (arith, ints, h.2)), omega arith))
    where
      to : (m : ℤ) → EncodesNumber 0 (pos (low * 10 ^ 6)) (pos (high * 10 ^ 6)) text m → EncodesInteger low high text (unsigned_abs m / 10 ^ 6)
      to (pos k) h =
          let rest : k % 10 ^ 6 ≡ 0 = stands_multiple 0 text (pos k) (omega arith) h.0 in
          let is : k ≡ k / 10 ^ 6 * 10 ^ 6 = omega (arith, rest) in
          (subst (λ n. StandsFor 0 text (pos n)) is h.0, omega (arith, ints, h.1), omega (arith, ints, h.2))
      to (negsuc k) h = absurd (omega (arith, ints, h.1))

  pub below_of_number : {r : Result ℤ F} (limit : ℕ) → Exactly r (EncodesNumber 0 (pos 0) (pos (limit * 10 ^ 6) -ℤ pos 1) text)
      → Exactly (r >>= λ m. Ok (unsigned_abs m / 10 ^ 6)) (EncodesBelow limit text)
  below_of_number limit number =
      made (λ m. unsigned_abs m / 10 ^ 6) number to
      (λ n h. (pos (n * 10 ^ 6), (h.0, omega (arith, ints), omega (arith, ints, h.1)), omega arith))
    where
      to : (m : ℤ) → EncodesNumber 0 (pos 0) (pos (limit * 10 ^ 6) -ℤ pos 1) text m → EncodesBelow limit text (unsigned_abs m / 10 ^ 6)
      to (pos k) h =
          let rest : k % 10 ^ 6 ≡ 0 = stands_multiple 0 text (pos k) (omega arith) h.0 in
          let is : k ≡ k / 10 ^ 6 * 10 ^ 6 = omega (arith, rest) in
          (subst (λ n. StandsFor 0 text (pos n)) is h.0, omega (arith, ints, h.2))
      to (negsuc k) h = absurd (omega (arith, ints, h.1))

  pub size_of_number : {r : Result ℤ F} (decimals most : ℕ) → Exactly r (EncodesNumber decimals (pos 0) (pos most) text)
      → Exactly (r >>= λ m. Ok (unsigned_abs m)) (EncodesSize decimals most text)
  size_of_number decimals most number =
      made unsigned_abs number to (λ n h. (pos n, (h.0, omega (arith, ints), omega (arith, ints, h.1)), refl))
    where
      to : (m : ℤ) → EncodesNumber decimals (pos 0) (pos most) text m → EncodesSize decimals most text (unsigned_abs m)
      to (pos k) h = (h.0, omega (arith, ints, h.2))
      to (negsuc k) h = absurd (omega (arith, ints, h.1))
