-- Reading a cell returns what the cell encodes.
use Rattle.std.proofs.Common.{◌≡◌, ℕ, ◌*◌, ◌%◌, ◌^◌, Bool, true, false, List, arith, refl, sym, ap, subst, ℤ, pos, negsuc, Ok, Err, Some, None, ◌≤◌, ◌/◌}
use Rattle.std.specs.Prelude.{Option, Result, ◌*ℤ◌, ◌-ℤ◌, int_div, unsigned_abs, if◌then◌else◌}
use Rattle.std.proofs.lemmas.Int.{ints}
use Rattle.pit_units.proofs.Exactly.{Exactly, made, same}
use Rattle.pit_units.proofs.Multiples.{stands_multiple}
use Rattle.pit_units.proofs.EncodedFacts.{below_of_number, integer_of_number, stands_within, within_stands}
use Rattle.pit_units.specs.Decimal.{decimal_within}
use Rattle.pit_units.specs.EncodedNumbers.{EncodesBelow, EncodesInteger, EncodesNumber}
use Rattle.pit_units.specs.StandsFor.{StandsFor}
use Rattle.pit_units.specs.declared.fault.DecFault.{DecFault}
use Rattle.pit_units.specs.declared.fault.DecFault.TheVariants as dec
use Rattle.plan_parts.specs.Name.{is_name}
use Rattle.pit_model.specs.EncodedCells.{EncodesOrigin, EncodesSize, EncodesTonnes, IsNameOf}
use Rattle.pit_model.specs.StatedCells.{below_in, integer_in, name_in, number_in, number_in_cell, number_of, origin_in, size_in, tonnes_in}
use Rattle.pit_model.specs.declared.plan_fault.PlanFaultKind.{PlanFaultKind}
use Rattle.pit_model.specs.declared.plan_fault.PlanFaultKind.TheVariants.{Name}

number_ok : (d : Result ℤ DecFault) (m : ℤ) → number_in_cell d ≡ Ok m → d ≡ Ok m
number_ok (Ok n) m e = ap Ok (same n m e)
number_ok (Err dec.Number) m e = absurd cc
number_ok (Err dec.TooFine) m e = absurd cc
number_ok (Err dec.Range) m e = absurd cc

pub number : (decimals : ℕ) (low high : ℤ) (cell : List ℕ) → decimals ≤ 6
    → Exactly (number_in decimals low high cell) (EncodesNumber decimals low high cell)
number decimals low high cell few = record {
  reported = λ m e. within_stands decimals low high cell m few (number_ok (decimal_within decimals low high cell) m e);
  back = λ m h. ap number_in_cell (stands_within decimals low high cell m few h);
}

pub whole : (low high : ℕ) (cell : List ℕ) → Exactly (integer_in low high cell) (EncodesInteger low high cell)
whole low high cell = integer_of_number cell low high (number 0 (pos (low * 10 ^ 6)) (pos (high * 10 ^ 6)) cell (omega arith))

pub below : (limit : ℕ) (cell : List ℕ) → Exactly (below_in limit cell) (EncodesBelow limit cell)
below limit cell = below_of_number cell limit (number 0 (pos 0) (pos (limit * 10 ^ 6) -ℤ pos 1) cell (omega arith))

pub size : (cell : List ℕ) → Exactly (size_in cell) (EncodesSize cell)
size cell =
    made (λ m. unsigned_abs m / 1000) (number 3 (pos 1000) (pos (100000 * 1000)) cell (omega arith)) to
    (λ n h. (pos (n * 1000), (h.0, omega (arith, ints, h.1), omega (arith, ints, h.2)), omega arith))
  where
    to : (m : ℤ) → EncodesNumber 3 (pos 1000) (pos (100000 * 1000)) cell m → EncodesSize cell (unsigned_abs m / 1000)
    to (pos k) h =
        let rest : k % 10 ^ 3 ≡ 0 = stands_multiple 3 cell (pos k) (omega arith) h.0 in
        let is : k ≡ k / 1000 * 1000 = omega (arith, rest) in
        (subst (λ n. StandsFor 3 cell (pos n)) is h.0, omega (arith, ints, h.1), omega (arith, ints, h.2))
    to (negsuc k) h = absurd (omega (arith, ints, h.1))

pub origin : (cell : List ℕ) → Exactly (origin_in cell) (EncodesOrigin cell)
origin cell =
    made (λ m. int_div m (pos 1000)) (number 3 (negsuc 999999999999 *ℤ pos 1000) (pos (10 ^ 12) *ℤ pos 1000) cell (omega arith)) to
    (λ mm h. (mm *ℤ pos 1000, (h.0, omega (arith, ints, h.1), omega (arith, ints, h.2)), omega (arith, ints)))
  where
    to : (m : ℤ) → EncodesNumber 3 (negsuc 999999999999 *ℤ pos 1000) (pos (10 ^ 12) *ℤ pos 1000) cell m → EncodesOrigin cell (int_div m (pos 1000))
    to m h =
        let rest : unsigned_abs m % 10 ^ 3 ≡ 0 = stands_multiple 3 cell m (omega arith) h.0 in
        let is : m ≡ int_div m (pos 1000) *ℤ pos 1000 = omega (arith, ints, rest) in
        (subst (StandsFor 3 cell) is h.0, omega (arith, ints, h.1), omega (arith, ints, h.2))

pub tonnes : (cell : List ℕ) → Exactly (tonnes_in cell) (EncodesTonnes cell)
tonnes cell = number 6 (pos 0) (pos (10 ^ 18)) cell (omega arith)

pub name : (cell : List ℕ) → Exactly (name_in cell) (IsNameOf cell)
name cell = record { reported = λ y e. reported (is_name cell) refl y e; back = λ y h. rw h.0 (ap Ok (sym h.1)) }
  where
    reported : (t : Bool) → is_name cell ≡ t → (y : List ℕ) → ◌≡◌ {A = Result (List ℕ) PlanFaultKind} (if t then Ok cell else Err Name) (Ok y)
        → IsNameOf cell y
    reported true is y e = (is, sym (same cell y e))
    reported false is y e = absurd cc

pub named : (o : Option ℕ) → Exactly (number_of o) (λ n. o ≡ Some n)
named (Some k) = record { reported = λ n e. ap Some (same k n e); back = λ n h. let is : k ≡ n = cc in ap Ok is }
named None = record { reported = λ n e. absurd cc; back = λ n h. absurd cc }
