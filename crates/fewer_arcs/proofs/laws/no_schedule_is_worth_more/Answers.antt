use Rattle.fewer_arcs.proofs.Best.{schedule_below, shares_below}
use Rattle.fewer_arcs.proofs.laws.no_schedule_is_worth_more.Goals as goal

pub returns-clause-whole : goal.returns-clause-whole
returns-clause-whole c = λ lists n periods weight value pit period_of fall best is.
    schedule_below lists n value pit best period_of is periods weight fall

pub returns-clause-shares : goal.returns-clause-shares
returns-clause-shares c = λ lists m value pit shares fall best is above.
    shares_below lists m.blocks value pit best m.destinations m.value above m.unit m.periods m.weight shares fall is
