use Rattle.std.proofs.Common.{◌≡◌, ◌+◌, ◌-◌, ◌≤◌, IsTrue}
use Rattle.devices.specs.feeds.FeedSteps.{remaining_after}
use Rattle.text_lines.specs.inner.Waiting.{Gave}
use Rattle.text_lines.proofs.waiting.Waiting.pass.Given as goal

-- the bytes that the feed gave since the call were dropped, and none of its pulls failed
abbrev pub invariant-loop-rest : goal.invariant-loop-rest
invariant-loop-rest g l = record {
  within : l.rest ≤ l.limit + 1;
  gave : Gave (l.limit + 1 - l.rest) (g.F.Feed.state l.initial.feed).remaining (g.F.Feed.state l.feed).remaining;
  stands : (g.F.Feed.state l.feed).remaining ≡ remaining_after ((g.F.Feed.state l.feed).given - (g.F.Feed.state l.initial.feed).given) (g.F.Feed.state l.initial.feed).remaining;
  counts : (g.F.Feed.state l.feed).given + l.rest ≡ (g.F.Feed.state l.initial.feed).given + (l.limit + 1);
  works : (g.F.Feed.state l.feed).failures ≡ (g.F.Feed.state l.initial.feed).failures;
  sure : IsTrue (g.F.Feed.state l.initial.feed).is_sure → IsTrue (g.F.Feed.state l.feed).is_sure;
}

abbrev pub decreases-loop-rest : goal.decreases-loop-rest
decreases-loop-rest g l = l.rest
