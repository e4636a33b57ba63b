use Rattle.std.proofs.Common.{◌≡◌, true, take}
use Rattle.minelib_reading.specs.LineForms.{all_differ}
use Rattle.minelib_reading.proofs.counts.MarkFacts.{AreJustMarked}
use Rattle.minelib_reading.proofs.marks.mark_new.Given as goal

-- the numbers so far are distinct, and are the marked ones
abbrev pub invariant-loop-id : goal.invariant-loop-id
invariant-loop-id l =
    (all_differ (take l.id-index l.ids) ≡ true) × AreJustMarked (take l.id-index l.ids) l.marks
