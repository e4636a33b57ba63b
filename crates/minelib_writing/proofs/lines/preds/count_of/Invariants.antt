use Rattle.std.proofs.Common.{◌≡◌, length, take}
use Rattle.precedence.specs.IdRanges.{ids_of}
use Rattle.minelib_writing.proofs.lines.preds.count_of.Given as goal

abbrev pub invariant-loop-range : goal.invariant-loop-range
invariant-loop-range l = l.count ≡ length (ids_of (take l.range-index l.ranges))
