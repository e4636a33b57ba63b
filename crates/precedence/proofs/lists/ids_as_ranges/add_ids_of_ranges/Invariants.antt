use Rattle.std.proofs.Common.{◌≡◌, ◌++◌, take}
use Rattle.precedence.specs.IdRanges.{ids_of}
use Rattle.precedence.proofs.lists.ids_as_ranges.add_ids_of_ranges.Given as goal

abbrev pub invariant-loop-range : goal.invariant-loop-range
invariant-loop-range l = l.list.items ≡ l.initial.list.items ++ ids_of (take l.range-index l.ranges)
