use Rattle.std.proofs.Common.{◌-◌, ◌≡◌, ◌+◌, ◌≤◌, take, vec_len, IsTrue}
use Rattle.devices.specs.feeds.Feed.{put_back}
use Rattle.devices.proofs.feeds.slurp.slurp.Given as goal

-- The bytes in hand are the bytes that the feed gave since the call, and none of its pulls failed.
abbrev pub invariant-loop-filled : goal.invariant-loop-filled
invariant-loop-filled g l = record {
  filled : l.filled ≤ vec_len l.text;
  within : vec_len l.text ≤ l.most;
  given : (g.F.Feed.state l.initial.feed).remaining ≡ put_back (take l.filled l.text.items) (g.F.Feed.state l.feed).remaining;
  counts : (g.F.Feed.state l.feed).given ≡ (g.F.Feed.state l.initial.feed).given + l.filled;
  works : (g.F.Feed.state l.feed).failures ≡ (g.F.Feed.state l.initial.feed).failures;
  sure : IsTrue (g.F.Feed.state l.initial.feed).is_sure → IsTrue (g.F.Feed.state l.feed).is_sure;
}

abbrev pub decreases-loop-filled : goal.decreases-loop-filled
decreases-loop-filled g l = l.most - l.filled
