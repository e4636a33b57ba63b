use Rattle.precedence.specs.inner.lanes.Windows.{AreCovers, AreFoundBy}
use Rattle.precedence.proofs.lanes.serving.serve.Given as goal

abbrev pub invariant-loop-number : goal.invariant-loop-number
invariant-loop-number l = record {
  covers : AreCovers l.lanes l.sight.by_table.items l.covers.items;
  found : AreFoundBy l.tables l.sight l.lanes l.number l.found.items;
}
