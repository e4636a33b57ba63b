use Rattle.std.proofs.Common.{◌≡◌, ◌++◌, length}
use Rattle.precedence.specs.IdRanges.{ids_of}
use Rattle.precedence.proofs.lists.ids_as_ranges.add_ranges_of_ids.Given as goal

abbrev pub invariant-loop-rest : goal.invariant-loop-rest
invariant-loop-rest l = ids_of l.ranges.items ++ l.rest ≡ ids_of l.initial.ranges.items ++ l.ids

abbrev pub decreases-loop-rest : goal.decreases-loop-rest
decreases-loop-rest l = length l.rest
