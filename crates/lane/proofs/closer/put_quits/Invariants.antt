use Rattle.std.proofs.Common.{◌≡◌, [], ◌∷◌}
use Rattle.lane.specs.declared.part.Part.TheVariants.{Close}
use Rattle.lane.specs.EndFields.{capacity_of}
use Rattle.lane.proofs.closer.put_quits.Given as goal

abbrev pub invariant-loop-quit : goal.invariant-loop-quit
invariant-loop-quit g l = l.seat ≡ record l.fn.seat { known = Close l.files l.takers (capacity_of l.fn.seat) 0 l._quit ∷ [] }
