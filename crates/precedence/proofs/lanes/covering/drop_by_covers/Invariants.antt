use Rattle.precedence.specs.inner.lanes.Windows.{MayDrop, MeetsAny}
use Rattle.precedence.proofs.lanes.covering.drop_by_covers.Given as goal

abbrev pub invariant-loop-cover : goal.invariant-loop-cover
invariant-loop-cover l = MayDrop (MeetsAny l.tables l.by_table l.distance) l.lanes l.rest
