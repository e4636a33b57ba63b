-- A number with few decimals is a multiple of the last one allowed.
use Rattle.std.specs.Prelude.{◌≡◌, ℕ, ◌+◌, ◌*◌, ◌-◌, ◌^◌, ◌%◌, ◌≤◌, true, List, ◌++◌, length, take, drop, replicate, ◌==◌, ℤ, unsigned_abs}
use Rattle.std.proofs.Common.{arith, refl, ap, sym, ◌∙◌}
use Rattle.std.proofs.Math.Seq.{take-add}
use Rattle.std.proofs.lemmas.List.{length-append, length-drop, length-take-le}
use Rattle.std.proofs.lemmas.Nat.{pow-add, mod-mul-add}
use Rattle.std.specs.Str.Parse.{digits_value}
use Rattle.pit_units.specs.Decimal.{all_zeros, six_decimals}
use Rattle.pit_units.specs.StandsFor.{StandsFor}
use Rattle.pit_units.proofs.Standing.{scale_positive, size_stands}
use Rattle.pit_units.proofs.Value.{pass_drop_append, pass_drop_later, pass_parts, value_append, value_zeros}

-- the six decimals, if those after a position are zeros
six_cut : (fraction : List ℕ) (max : ℕ) → max ≤ 6 → all_zeros (drop max fraction) ≡ true
    → digits_value 10 (six_decimals fraction) ≡ digits_value 10 (take max (fraction ++ replicate 6 48)) * 10 ^ (6 - max)
six_cut fraction max few fine =
    let padded = fraction ++ replicate 6 48 in
    let rest = take (6 - max) (drop max padded) in
    let zeros : all_zeros rest ≡ true =
    (pass_parts (λ c. c == 48) (drop max padded) (6 - max) (pass_drop_append (λ c. c == 48) fraction (replicate 6 48) max fine refl)).0 in
    let count : length rest ≡ 6 - max =
    length-take-le (6 - max) (drop max padded) (omega (arith, length-drop max padded, length-append fraction (replicate 6 48))) in
    let whole : max + (6 - max) ≡ 6 = omega arith in
    let split : six_decimals fraction ≡ take max padded ++ rest = ap (λ n. take n padded) (sym whole) ∙ take-add max (6 - max) padded in
    let joined : digits_value 10 (six_decimals fraction) ≡ digits_value 10 (take max padded) * 10 ^ length rest + digits_value 10 rest =
    ap (digits_value 10) split ∙ value_append (take max padded) rest in
    let cut : digits_value 10 (six_decimals fraction) ≡ digits_value 10 (take max padded) * 10 ^ (6 - max) + 0 =
    rw (count, value_zeros rest zeros) at joined in
    omega (arith, cut)

product : (whole cut scale step : ℕ) → whole * (scale * step) + cut * step ≡ (whole * scale + cut) * step + 0
product whole cut scale step = omega arith

-- a number with at most `max` decimals is a multiple of a unit of the last of them
pub stands_multiple : (max : ℕ) (text : List ℕ) (m : ℤ) → max ≤ 6 → StandsFor max text m → unsigned_abs m % 10 ^ (6 - max) ≡ 0
stands_multiple max text m few s =
    let size = size_stands s.whole s.fraction (unsigned_abs m) (pass_drop_later (λ c. c == 48) s.fraction max 6 few s.fine) s.value in
    let cut = six_cut s.fraction max few s.fine in
    let whole : 6 ≡ max + (6 - max) = omega arith in
    let power : 10 ^ 6 ≡ 10 ^ max * 10 ^ (6 - max) = ap (λ n. 10 ^ n) whole ∙ pow-add 10 max (6 - max) in
    let digits = digits_value 10 s.whole in
    let decimals = digits_value 10 (take max (s.fraction ++ replicate 6 48)) in
    let sum : unsigned_abs m ≡ (digits * 10 ^ max + decimals) * 10 ^ (6 - max) + 0 =
    sym size ∙ ap (λ d. digits * 10 ^ 6 + d) cut ∙ ap (λ p. digits * p + decimals * 10 ^ (6 - max)) power
    ∙ product digits decimals (10 ^ max) (10 ^ (6 - max)) in
    ap (λ n. n % 10 ^ (6 - max)) sum ∙ mod-mul-add (digits * 10 ^ max + decimals) (10 ^ (6 - max)) 0 (scale_positive (6 - max))
