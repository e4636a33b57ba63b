use Rattle.std.proofs.Common.{◌≡◌, ◌+◌, ◌-◌, IsTrue}
use Rattle.devices.specs.feeds.FeedSteps.{remaining_after}
use Rattle.text_lines.specs.inner.Waiting.{NoLineEnd, SoFar}
use Rattle.text_lines.proofs.fed_lines.read_fed.Given as goal

-- the lines to come continue from the state, and no pull failed
abbrev pub invariant-loop-rest : goal.invariant-loop-rest
invariant-loop-rest g l = record {
  so_far : SoFar g.S.Admit.admit_line l.initial.state l.state l.waiting l.rest (l.limit + 1) (g.F.Feed.state l.initial.feed).remaining (g.F.Feed.state l.feed).remaining;
  unended : NoLineEnd l.waiting.held;
  stands : (g.F.Feed.state l.feed).remaining ≡ remaining_after ((g.F.Feed.state l.feed).given - (g.F.Feed.state l.initial.feed).given) (g.F.Feed.state l.initial.feed).remaining;
  counts : (g.F.Feed.state l.feed).given + l.rest ≡ (g.F.Feed.state l.initial.feed).given + (l.limit + 1);
  works : (g.F.Feed.state l.feed).failures ≡ (g.F.Feed.state l.initial.feed).failures;
  sure : IsTrue (g.F.Feed.state l.initial.feed).is_sure → IsTrue (g.F.Feed.state l.feed).is_sure;
}

abbrev pub decreases-loop-rest : goal.decreases-loop-rest
decreases-loop-rest g l = l.rest
