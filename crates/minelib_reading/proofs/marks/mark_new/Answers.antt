use Rattle.std.proofs.Common.{sym}
use Rattle.minelib_reading.proofs.counts.MarkFacts.{repeated, marked_of_all, marked_at}
use Rattle.minelib_reading.proofs.marks.mark_new.Goals as goal

pub returns-then-marks-id-clause-value : goal.returns-then-marks-id-clause-value
returns-then-marks-id-clause-value c =
    sym (repeated c.args.ids.now c.loop-id.marks c.loop-id.id-index c.loop-id-test.true c.loop-id.invariant.1 c.if-marks-id.true)

pub returns-then-marks-id-clause-marked : goal.returns-then-marks-id-clause-marked
returns-then-marks-id-clause-marked c =
    marked_of_all c.args.ids.now c.loop-id.marks c.loop-id.id-index c.loop-id-test.true c.loop-id.invariant.1

pub loop-id-preserved : goal.loop-id-preserved
loop-id-preserved c =
    marked_at c.args.ids.now c.loop-id.marks c.loop-id.id-index c.loop-id-test.true
    (rw c.loop-id.auto.marks (c.requires.below c.loop-id.id-index 0 c.loop-id-test.true))
    c.loop-id.invariant.0 c.loop-id.invariant.1 c.if-marks-id.false
