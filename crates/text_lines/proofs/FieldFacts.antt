-- The value read from a field is the value that the field encodes.
use Rattle.std.specs.Prelude.{◌≡◌, ℕ, ◌*◌, ◌^◌, ◌≤◌, List, ℤ, pos, ◌-ℤ◌, Result, Ok, Err}
use Rattle.std.proofs.Common.{ap, arith}
use Rattle.pit_units.proofs.Standing.{read_stands, stands_read}
use Rattle.pit_units.specs.Decimal.{decimal_of, decimal_within}
use Rattle.pit_units.specs.StandsFor.{StandsFor}
use Rattle.pit_units.specs.declared.fault.DecFault.{DecFault}
use Rattle.pit_units.specs.declared.fault.DecFault.TheVariants as dec
use Rattle.pit_units.proofs.Exactly.{Exactly, same}
use Rattle.pit_units.proofs.EncodedFacts.{below_of_number, integer_of_number, size_of_number, within}
use Rattle.pit_units.specs.EncodedNumbers.{EncodesBelow, EncodesInteger, EncodesNumber, EncodesSize}
use Rattle.text_lines.specs.StatedFields.{below_in, decimal_in, integer_in, number_in, number_in_field, size_in}

number_ok : (d : Result ℤ DecFault) (m : ℤ) → number_in_field d ≡ Ok m → d ≡ Ok m
number_ok (Ok n) m e = ap Ok (same n m e)
number_ok (Err dec.Number) m e = absurd cc
number_ok (Err dec.TooFine) m e = absurd cc
number_ok (Err dec.Range) m e = absurd cc

pub number : (decimals : ℕ) (low high : ℤ) (field : List ℕ) → decimals ≤ 6
    → Exactly (number_in decimals low high field) (EncodesNumber decimals low high field)
number decimals low high field few =
    let all = within decimals low high field few in
    record { reported = λ m e. all.reported m (number_ok (decimal_within decimals low high field) m e); back = λ m h. ap number_in_field (all.back m h) }

pub below : (limit : ℕ) (field : List ℕ) → Exactly (below_in limit field) (EncodesBelow limit field)
unfolding below_in
below limit field = below_of_number field limit (number 0 (pos 0) (pos (limit * 10 ^ 6) -ℤ pos 1) field (omega arith))

pub whole : (low high : ℕ) (field : List ℕ) → Exactly (integer_in low high field) (EncodesInteger low high field)
whole low high field = integer_of_number field low high (number 0 (pos (low * 10 ^ 6)) (pos (high * 10 ^ 6)) field (omega arith))

pub size : (decimals most : ℕ) (field : List ℕ) → decimals ≤ 6 → Exactly (size_in decimals most field) (EncodesSize decimals most field)
unfolding size_in
size decimals most field few = size_of_number field decimals most (number decimals (pos 0) (pos most) field few)

pub any : (field : List ℕ) → Exactly (decimal_in field) (StandsFor 6 field)
unfolding decimal_in
any field = record {
  reported = λ m e. read_stands 6 field m (omega arith) (number_ok (decimal_of 6 field) m e);
  back = λ m h. ap number_in_field (stands_read 6 field m (omega arith) h);
}
