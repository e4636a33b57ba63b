use Rattle.std.proofs.Common.{◌≡◌}
use Rattle.lane.proofs.seated.SeatedSender.put_soon.Given as goal

abbrev pub invariant-loop-turn : goal.invariant-loop-turn
invariant-loop-turn g l = l.self ≡ l.fn.self
