use Rattle.std.proofs.Common.{refl}
use Rattle.lane.proofs.Opens.{last_end}
use Rattle.valuers.proofs.lane_tests.only_take.Goals as goal

pub returns : goal.returns
returns c = last_end _ _ _ _ _ c.pop.ensures.items c.requires (refl, refl, refl)
