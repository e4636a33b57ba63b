use Rattle.std.proofs.Common.{◌≡◌, [], ◌∷◌}
use Rattle.lane.specs.declared.part.Part.TheVariants.{Count}
use Rattle.lane.proofs.opening.count_files.Given as goal

abbrev pub invariant-loop-file : goal.invariant-loop-file
invariant-loop-file l = l.seat ≡ record l.fn.seat { known = Count l._file 0 0 ∷ [] }
