use Rattle.std.proofs.Common.{◌≡◌, All, length}
use Rattle.precedence.specs.declared.lanes.strips.Window.{Window}
use Rattle.precedence.proofs.lanes.windows.no_windows.Given as goal

abbrev pub invariant-loop : goal.invariant-loop
invariant-loop l = record {
  windows : length l.windows.items ≡ l.counter;
  lanes : All (λ (w : Window). w.lanes ≡ 0) l.windows.items;
  by_table : length l.by_table.items ≡ l.counter;
}
