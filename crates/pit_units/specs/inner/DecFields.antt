-- Conversions between the halves of a decimal and its millionths.
use Rattle.std.specs.Prelude.{◌≡◌, ℕ, ◌+◌, ◌*◌, ◌/◌, ◌%◌, ◌^◌, ◌<◌, ◌≤◌, ℤ, pos, ◌+ℤ◌, ◌-ℤ◌, unsigned_abs}
use Rattle.std.proofs.Common.{◌∙◌, ap}
use Rattle.std.proofs.lemmas.Nat.{div-mul-add, mod-mul-add}
use Rattle.std.proofs.Math.IntN as int
use Rattle.pit_units.specs.declared.decimal.Dec.TheInside.{Inside}

-- the number with two digits of 64 bits
abbrev pub raised_of : Inside → ℕ
raised_of dec = dec.high * 2 ^ 64 + dec.low

-- that number minus 10^24
abbrev pub millionths_of : Inside → ℤ
millionths_of dec = pos (raised_of dec) -ℤ pos (10 ^ 24)

-- at most 10^24 either side of zero
abbrev pub KeepsRange : Inside → Type 0
KeepsRange dec = (raised_of dec ≤ 2 * 10 ^ 24) × (dec.low < 2 ^ 64)

-- the halves of n millionths
abbrev pub halves_of : ℤ → Inside
halves_of n = record { high = unsigned_abs (n +ℤ pos (10 ^ 24)) / 2 ^ 64; low = unsigned_abs (n +ℤ pos (10 ^ 24)) % 2 ^ 64 }

raised_back : (dec : Inside) → unsigned_abs (millionths_of dec +ℤ pos (10 ^ 24)) ≡ raised_of dec
raised_back dec = ap unsigned_abs (int.-ℤ-+ℤ_cancel (pos (raised_of dec)) (pos (10 ^ 24)))

pub high_back : (dec : Inside) → KeepsRange dec → unsigned_abs (millionths_of dec +ℤ pos (10 ^ 24)) / 2 ^ 64 ≡ dec.high
high_back dec kept = ap (λ n. n / 2 ^ 64) (raised_back dec) ∙ div-mul-add dec.high (2 ^ 64) dec.low kept.1

pub low_back : (dec : Inside) → KeepsRange dec → unsigned_abs (millionths_of dec +ℤ pos (10 ^ 24)) % 2 ^ 64 ≡ dec.low
low_back dec kept = ap (λ n. n % 2 ^ 64) (raised_back dec) ∙ mod-mul-add dec.high (2 ^ 64) dec.low kept.1
