use Rattle.std.proofs.Common.{◌≡◌, ◌++◌, take}
use Rattle.precedence.specs.IdRanges.{ids_of}
use Rattle.minelib_writing.specs.inner.Spaced.{spaced}
use Rattle.minelib_writing.proofs.id_text.IdText.append.Given as goal

abbrev pub invariant-loop-range : goal.invariant-loop-range
invariant-loop-range l = l.out.items ≡ l.initial.out.items ++ spaced (ids_of (take l.range-index l.ranges))
