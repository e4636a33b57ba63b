use Rattle.std.proofs.Common.{◌≡◌, ◌+◌, ◌*◌, ◌≤◌, ◌++◌, ◌∷◌, All, drop, length}
use Rattle.std.specs.List.{flat_map}
use Rattle.pit_units.specs.Decimal.{shortest}
use Rattle.pit_units.specs.DecimalRange.{IsInDecimalRange}
use Rattle.pit_units.specs.Line.{line_in}
use Rattle.mine_instance.specs.BlockValues.{values_in}
use Rattle.minelib_writing.proofs.lines.values.write_values.Given as goal

-- The last values are written, so far.
abbrev pub invariant-loop-remaining : goal.invariant-loop-remaining
invariant-loop-remaining l = record {
  within : l.remaining ≤ length (values_in l.values);
  text : line_in l.scratch l.at ≡ flat_map (λ value. 32 ∷ shortest value) (drop l.remaining (values_in l.values)) ++ line_in l.initial.scratch l.end;
  start : (l.end + 29 * l.remaining ≤ l.at + 29 * length (values_in l.values)) × (l.at ≤ l.end);
  kept : All IsInDecimalRange (drop l.remaining (values_in l.values));
}

abbrev pub decreases-loop-remaining : goal.decreases-loop-remaining
decreases-loop-remaining l = l.remaining
