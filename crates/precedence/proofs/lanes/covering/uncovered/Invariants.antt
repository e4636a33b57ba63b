use Rattle.precedence.specs.inner.lanes.Windows.{AreUncovered}
use Rattle.precedence.proofs.lanes.covering.uncovered.Given as goal

abbrev pub invariant-loop-cover : goal.invariant-loop-cover
invariant-loop-cover l = AreUncovered l.tables l.covers l.strip.start l.offsets l.rest
