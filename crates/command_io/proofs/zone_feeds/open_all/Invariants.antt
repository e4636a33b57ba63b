use Rattle.std.proofs.Common.{◌≡◌, ◌++◌, map, string_bytes, length}
use Rattle.devices.specs.feeds.FeedState.{all_remaining}
use Rattle.devices.specs.files.Opening.{all_opened}
use Rattle.command_io.proofs.zone_feeds.open_all.Given as goal

-- The files before this one were opened in order.
abbrev pub invariant-loop-file : goal.invariant-loop-file
invariant-loop-file g l = record {
  opened : g.O.Opener.opened l.files ≡ g.O.Opener.opened l.initial.files
      ++ all_opened (map string_bytes l.paths) (all_remaining g.O.Opened.Feed.state l.feeds.items);
  count : length l.feeds.items ≡ l.file;
}
