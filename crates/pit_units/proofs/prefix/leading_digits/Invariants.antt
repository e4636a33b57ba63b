use Rattle.std.proofs.Common.{◌≡◌, ◌<◌, ◌≤◌, ◌^◌, take, true}
use Rattle.std.specs.Str.Parse.{digits_value}
use Rattle.pit_units.specs.Decimal.{all_digits}
use Rattle.pit_units.proofs.prefix.leading_digits.Given as goal

abbrev pub invariant-loop-place : goal.invariant-loop-place
invariant-loop-place l =
    (l.place ≤ 18)
    × ((l.number < 10 ^ l.place) × ((l.number ≡ digits_value 10 (take l.place l.text)) × (all_digits (take l.place l.text) ≡ true)))
