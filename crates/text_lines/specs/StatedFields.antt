-- The value of a field, or its error.
use Rattle.std.specs.Prelude.{ℕ, ◌*◌, ◌/◌, ◌^◌, List, [], slice_index_or, ℤ, pos, ◌-ℤ◌, unsigned_abs, Result, Ok, Err}
use Rattle.pit_units.specs.Steps.{◌>>=◌}
use Rattle.pit_units.specs.Decimal.{decimal_of, decimal_within}
use Rattle.pit_units.specs.declared.fault.DecFault.{DecFault}
use Rattle.pit_units.specs.declared.fault.DecFault.TheVariants as dec
use Rattle.text_lines.specs.declared.text_fault.TextKind.{TextKind}
use Rattle.text_lines.specs.declared.text_fault.TextKind.TheVariants.{Number, TooFine, Range}

-- the field at an index, from 0
abbrev pub field_at : List (List ℕ) → ℕ → List ℕ
field_at fields place = slice_index_or fields place []

-- the millionths of a decimal, or its error
abbrev pub number_in_field : Result ℤ DecFault → Result ℤ TextKind
number_in_field (Ok m) = Ok m
number_in_field (Err dec.Number) = Err Number
number_in_field (Err dec.TooFine) = Err TooFine
number_in_field (Err dec.Range) = Err Range

-- a number with at most `decimals` decimals, not counting zeros after them, from the lowest to the highest millionths
abbrev pub number_in : ℕ → ℤ → ℤ → List ℕ → Result ℤ TextKind
number_in decimals low high field = number_in_field (decimal_within decimals low high field)

-- an integer from the lowest to the highest, inclusive
abbrev pub integer_in : ℕ → ℕ → List ℕ → Result ℕ TextKind
integer_in low high field = number_in 0 (pos (low * 10 ^ 6)) (pos (high * 10 ^ 6)) field >>= λ m. Ok (unsigned_abs m / 10 ^ 6)

-- an integer from 0 on, below a limit
unfoldable pub below_in : ℕ → List ℕ → Result ℕ TextKind
below_in limit field = number_in 0 (pos 0) (pos (limit * 10 ^ 6) -ℤ pos 1) field >>= λ m. Ok (unsigned_abs m / 10 ^ 6)

-- millionths from 0 to `most`, with at most `decimals` decimals
unfoldable pub size_in : ℕ → ℕ → List ℕ → Result ℕ TextKind
size_in decimals most field = number_in decimals (pos 0) (pos most) field >>= λ m. Ok (unsigned_abs m)

-- the millionths of any decimal
unfoldable pub decimal_in : List ℕ → Result ℤ TextKind
decimal_in field = number_in_field (decimal_of 6 field)
