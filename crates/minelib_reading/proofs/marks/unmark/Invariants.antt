use Rattle.std.proofs.Common.{drop}
use Rattle.minelib_reading.specs.inner.Marks.{AreMarked}
use Rattle.minelib_reading.proofs.marks.unmark.Given as goal

-- the marked numbers are still to come
abbrev pub invariant-loop-id : goal.invariant-loop-id
invariant-loop-id l = AreMarked (drop l.id-index l.ids) l.marks
