use Rattle.std.proofs.Common.{◌≡◌, ℕ, ◌<◌, [], length, get_or}
use Rattle.precedence.specs.declared.lanes.strips.Strips.{Strips}
use Rattle.precedence.proofs.lanes.looking.clear.Given as goal

abbrev pub invariant-loop-number : goal.invariant-loop-number
invariant-loop-number l = record {
  all : l.sight.all.strips.items ≡ [];
  tables : length l.sight.by_table.items ≡ length l.initial.sight.by_table.items;
  each : (n : ℕ) (s : Strips) → n < l.number → (get_or l.sight.by_table.items n s).strips.items ≡ [];
}
