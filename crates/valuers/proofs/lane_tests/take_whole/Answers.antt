use Rattle.lane.specs.Ends.{TakeEndView}
use Rattle.lane.proofs.Opens.{ends_back}
use Rattle.valuers.proofs.lane_tests.take_whole.Goals as goal

pub returns-clause-ends : goal.returns-clause-ends
returns-clause-ends g c = λ lane takers h. ends_back (λ (t : TakeEndView). t.lane) (λ t. t.taker) lane takers 0 c.args.takes.items _
    c.in_ok-taken.ensures.len c.in_ok-taken.ensures.lanes c.in_ok-taken.ensures.takers h
