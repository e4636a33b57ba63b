use Rattle.std.proofs.Common.{◌≡◌}
use Rattle.valuers.proofs.lane_tests.take_all.Given as goal

abbrev pub invariant-loop : goal.invariant-loop
invariant-loop g l =
    (goal.iterator-loop g).can_next l.iterator' × (goal.iterator-loop g).is_finite l.iterator' × (l.end.lane ≡ l.fn.end.lane)
    × (l.end.taker ≡ l.fn.end.taker)
