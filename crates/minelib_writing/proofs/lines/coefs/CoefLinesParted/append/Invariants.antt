use Rattle.std.proofs.Common.{◌≡◌, ◌+◌, ◌-◌, ◌≤◌, ◌++◌, ◌∷◌, [], length, map, take, drop}
use Rattle.std.specs.Prelude.{HoldsAt}
use Rattle.std.specs.List.{concat}
use Rattle.pit_units.specs.Decimal.{shortest}
use Rattle.pit_units.specs.DecimalRange.{IsInDecimalRange}
use Rattle.minelib_writing.specs.inner.CoefParts.{coef_part}
use Rattle.pit_units.specs.Line.{line_in}
use Rattle.minelib_writing.specs.inner.KeptParts.{HoldsFrom}
use Rattle.minelib_writing.proofs.lines.coefs.CoefLinesParted.append.Given as goal

-- The parts so far are appended, and the end of their lines has the tonnes of the last of them, with the facts that their type
-- guarantees.
abbrev pub invariant-loop-count : goal.invariant-loop-count
invariant-loop-count g l = record {
  few : l.count ≤ l.most;
  within : l.index + l.count ≤ length (g.C.CoefList.list l.self.coefs.now);
  tonnes : line_in l.scratch l.end ≡ 32 ∷ (shortest l.tonnes ++ 10 ∷ []);
  end : (24 ≤ l.end) × (l.end ≤ 256);
  known : IsInDecimalRange l.tonnes;
  text : l.out.items ≡ l.initial.out.items
      ++ concat (take l.count (drop l.index (map (coef_part g.V.ValueList.list l.self.form) (g.C.CoefList.list l.self.coefs.now))));
  kept : HoldsFrom (HoldsAt (λ c. IsInDecimalRange c.v) (g.C.CoefList.list l.self.coefs.now)) l.index (l.index + l.count);
}

abbrev pub decreases-loop-count : goal.decreases-loop-count
decreases-loop-count g l = l.most - l.count
