use Rattle.lane.proofs.Rules.{counts}
use Rattle.lane.proofs.opening.count_places.Goals as goal

pub split-requires : goal.split-requires
split-requires c = record { rule = rw c.loop-place.invariant (λ pass. counts pass _ _ _ _ _ _) }
