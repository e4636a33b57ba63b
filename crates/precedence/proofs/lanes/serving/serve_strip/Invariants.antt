use Rattle.std.proofs.Common.{◌+◌, ◌-◌, min}
use Rattle.precedence.specs.inner.lanes.Windows.{AreCovers, AreFound, HasOffsets}
use Rattle.precedence.proofs.lanes.serving.serve_strip.Given as goal

abbrev pub invariant-loop-at : goal.invariant-loop-at
invariant-loop-at l = record {
  covers : AreCovers l.lanes l.sight.by_table.items l.covers.items;
  found : AreFound l.tables l.sight l.lanes (l.strip.start + min l.at l.strip.len) l.found.items;
  offsets : HasOffsets l.tables l.sight.by_table.items l.lanes l.strip l.offsets;
}

abbrev pub decreases-loop-at : goal.decreases-loop-at
decreases-loop-at l = l.strip.len - l.at
