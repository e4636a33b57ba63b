use Rattle.precedence.specs.inner.lanes.Windows.{AreCovers, Drops, MeetsTable}
use Rattle.precedence.proofs.bits.Dropping.{Among}
use Rattle.precedence.proofs.lanes.covering.drop_by_all.Given as goal

abbrev pub invariant-loop-number : goal.invariant-loop-number
invariant-loop-number l = record {
  covers : AreCovers l.lanes l.by_table l.covers.items;
  drops : Drops (Among (MeetsTable l.tables l.by_table l.distance) 0 l.number) l.there l.rest;
}
