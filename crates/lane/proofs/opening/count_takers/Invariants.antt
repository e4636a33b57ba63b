use Rattle.std.proofs.Common.{◌≡◌, [], ◌∷◌}
use Rattle.lane.specs.declared.part.Part.TheVariants.{Count}
use Rattle.lane.proofs.opening.count_takers.Given as goal

abbrev pub invariant-loop-taker : goal.invariant-loop-taker
invariant-loop-taker l = l.seat ≡ record l.fn.seat { known = Count l.files l._taker 0 ∷ [] }
