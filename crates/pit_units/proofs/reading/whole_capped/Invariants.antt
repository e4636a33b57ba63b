use Rattle.std.proofs.Common.{◌≡◌, ◌+◌, ◌^◌, min, take}
use Rattle.std.specs.Str.Parse.{digits_value}
use Rattle.pit_units.proofs.reading.whole_capped.Given as goal

abbrev pub invariant-loop-digit : goal.invariant-loop-digit
invariant-loop-digit l = l.value ≡ min (10 ^ 18 + 1) (digits_value 10 (take l.digit-index l.digits))
