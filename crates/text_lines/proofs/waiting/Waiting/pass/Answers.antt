use Rattle.std.proofs.Common.{◌+◌, ◌-◌, ◌≤◌, ◌∙◌, arith}
use Rattle.text_lines.proofs.GivenFacts.{gave_more, stands_on}
use Rattle.text_lines.proofs.waiting.Waiting.pass.Goals as goal

pub loop-rest-preserved : goal.loop-rest-preserved
loop-rest-preserved g c =
    let inv = c.loop-rest.invariant in
    let pulls = c.pull.ensures.pulls in
    let n = c.in_ok-count.count in
    let within : n ≤ c.loop-rest.rest = c.in_ok-count.ensures.within in
    record {
      within = omega (arith, inv.within);
      gave = gave_more (c.args.limit + 1 - c.loop-rest.rest) n (c.args.limit + 1 - (c.loop-rest.rest - n)) _ c.pull.new.self _ _ _ inv.gave
          c.in_ok-count.ensures.held (omega (arith, inv.within, within));
      stands = stands_on (g.F.Feed.state c.args.feed.now) (g.F.Feed.state c.loop-rest.feed) (g.F.Feed.state c.pull.new.feed)
          (omega (arith, inv.counts, inv.within)) pulls.onward inv.stands pulls.stands;
      counts = omega (arith, inv.counts, c.in_ok-count.ensures.pulls.counts, within);
      works = c.in_ok-count.ensures.pulls.works ∙ inv.works;
      sure = λ s. pulls.stays_sure (inv.sure s);
    }
