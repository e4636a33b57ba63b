use Rattle.std.proofs.Common.{◌≡◌, length}
use Rattle.precedence.specs.Codes.{place_codes}
use Rattle.precedence.specs.inner.Outside.{AreColumns}
use Rattle.precedence.proofs.places.columns.columns_of.Given as goal

abbrev pub invariant-loop-k : goal.invariant-loop-k
invariant-loop-k l = record {
  each : length l.columns.items ≡ l.k;
  columns : AreColumns l.columns.items (place_codes l.blocks);
}
