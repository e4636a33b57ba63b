use Rattle.std.proofs.Common.{rules, ◌≡◌, ◌+◌, length, take, ap, sym, ◌∙◌, length-take-le}
use Rattle.devices.specs.Count.{count_of}
use Rattle.devices.proofs.ReadGiven.{gave_more, gave_back, put_back_consumes, ends}
use Rattle.devices.proofs.feeds.read_feed.ReadFeedFeed.pull.Goals as goal

pub invariant_of-self : goal.invariant_of-self
invariant_of-self g c =
    let many : length (take c.in-Ok.count c.read_some.new.buffer) ≡ c.in-Ok.count = search (rules, length-take-le) in
    gave_more _ _ _ _ _ (take c.in-Ok.count c.read_some.new.buffer)
    (c.raised.ensures ∙ ap (λ n. count_of c.self.inside.given + n) (sym many)) c.self.invariant c.in-Ok.ensures.reads.0

pub returns-in-Ok-clause-gives : goal.returns-in-Ok-clause-gives
returns-in-Ok-clause-gives g c =
    ap (λ v. v.remaining) (sym c.self.view_is)
    ∙ gave_back _ _ _ _ _ (take c.in-Ok.count c.read_some.new.buffer) c.self.invariant (invariant_of-self g c) c.in-Ok.ensures.reads.0

pub returns-in-Ok-clause-reads : goal.returns-in-Ok-clause-reads
returns-in-Ok-clause-reads g c = (
  put_back_consumes _ _ _ (returns-in-Ok-clause-gives g c),
  λ none room. ends _ _ _ (invariant_of-self g c) (c.in-Ok.ensures.reads.1 none room),
)
