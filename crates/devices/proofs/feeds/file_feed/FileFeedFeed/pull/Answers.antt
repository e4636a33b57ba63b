use Rattle.std.proofs.Common.{◌≤◌, subst, sym, IfOk}
use Rattle.devices.proofs.ReadGiven.{remaining_on_pull}
use Rattle.devices.proofs.feeds.file_feed.FileFeedFeed.pull.Goals as goal

pub invariant_of-self : goal.invariant_of-self
invariant_of-self g c =
    remaining_on_pull c.pull.result _ _ _ _ _ c.pull.new.buffer
    (subst (λ size. IfOk c.pull.result (λ n. n ≤ size)) (sym c.pull.auto.buffer) c.pull.ensures.within) c.pull.ensures.gives c.pull.ensures.pulls.refused_remaining c.pull.ensures.pulls.counts
    c.pull.ensures.pulls.refused_given c.self.invariant
