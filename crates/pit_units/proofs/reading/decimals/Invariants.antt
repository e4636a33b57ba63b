use Rattle.std.proofs.Common.{◌≡◌, ◌<◌, ◌^◌, ◌++◌, take, replicate}
use Rattle.std.specs.Str.Parse.{digits_value}
use Rattle.pit_units.proofs.reading.decimals.Given as goal

abbrev pub invariant-loop-place : goal.invariant-loop-place
invariant-loop-place l = (l.value < 10 ^ l.place) × (l.value ≡ digits_value 10 (take l.place (l.fraction ++ replicate 6 48)))
