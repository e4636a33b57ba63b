use Rattle.std.proofs.Common.{◌≡◌, [], ◌∷◌}
use Rattle.lane.specs.declared.part.Part.TheVariants.{Count}
use Rattle.lane.proofs.opening.count_places.Given as goal

abbrev pub invariant-loop-place : goal.invariant-loop-place
invariant-loop-place l = l.seat ≡ record l.fn.seat { known = Count l.files l.takers l._place ∷ [] }
