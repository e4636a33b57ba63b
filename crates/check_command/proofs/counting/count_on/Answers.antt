use Rattle.devices.specs.declared.feeds.slurp.TheConstants.{LARGEST_LIMIT}
use Rattle.check_command.proofs.CountedAll.{reported}
use Rattle.check_command.proofs.counting.count_on.Goals as goal

pub returns-in-Ok-count_in-clause-counts : goal.returns-in-Ok-count_in-clause-counts
returns-in-Ok-count_in-clause-counts g c =
    rw c.in-Ok.is (reported c.args.file c.in-Ok.so_far LARGEST_LIMIT (g.F.Feed.state c.args.feed.now) _ _ c.in-Ok-count_in.ensures.counts)

pub returns-in-Err-Text-clause-counts : goal.returns-in-Err-Text-clause-counts
returns-in-Err-Text-clause-counts g c =
    let all = reported c.args.file c.in-Ok.so_far LARGEST_LIMIT (g.F.Feed.state c.args.feed.now) _ _ (rw c.in-Err-Text.field-0-is at c.in-Err-Text.ensures.counts) in
    rw (c.in-Ok.is, c.in_file.ensures) all
