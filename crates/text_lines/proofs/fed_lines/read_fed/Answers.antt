use Rattle.std.proofs.Common.{rules, ◌≡◌, ◌≢◌, ◌+◌, ◌-◌, ◌≤◌, ◌∙◌, length, ap, refl, subst, arith, Err}
use Rattle.std.proofs.lemmas.Result.{err_from_is_err_and}
use Rattle.text_lines.specs.inner.Waiting.{GaveAll}
use Rattle.text_lines.proofs.FedSteps.{fails_after, held_more, long_reported, none_yet, read_faulty, read_invalid, read_whole, refused_text, took_more}
use Rattle.text_lines.proofs.GivenFacts.{stands_first, stands_on}
use Rattle.text_lines.proofs.LineEnds.{prefix_held}
use Rattle.text_lines.proofs.fed_lines.read_fed.Goals as goal

pub loop-rest-init : goal.loop-rest-init
loop-rest-init g c = record {
  so_far = rw c.new-waiting.ensures (none_yet g.S.Admit.admit_line c.args.state.now (c.args.limit + 1) (g.F.Feed.state c.args.feed.now).remaining);
  unended = search rules;
  stands = stands_first (g.F.Feed.state c.args.feed.now).given (g.F.Feed.state c.args.feed.now).remaining;
  counts = omega arith;
  works = cc;
  sure = λ s. s;
}

pub returns-then-count-eq0-clause-read : goal.returns-then-count-eq0-clause-read
returns-then-count-eq0-clause-read g c =
    read_whole g.S.Admit.admit_line c.args.state.now c.loop-rest.state c.read_leading.new.state c.loop-rest.waiting c.pull.new.self c.loop-rest.rest
    c.in_ok-count.count c.args.limit c.len.result _ (g.F.Feed.state c.loop-rest.feed) _ c.loop-rest.invariant.so_far c.in_ok-count.ensures.held
    c.if-count-eq0.true c.loop-rest-test.true
    (omega (arith, c.if-count-eq0.true, c.loop-rest.invariant.counts, c.loop-rest.invariant.so_far.count, c.in_ok-count.ensures.pulls.counts))
    (c.in_ok-count.ensures.pulls.end c.if-count-eq0.true) (omega (arith, c.len.ensures))
    c.in_ok-read_leading.field-0 c.in_ok-read_leading.ensures.read c.in_ok-read_leading.ensures.number

pub returns-in_err-read_leading-clause-read : goal.returns-in_err-read_leading-clause-read
returns-in_err-read_leading-clause-read g c =
    let exit = err_from_is_err_and c.from_residual-in_err-read_leading.result c.from_residual-in_err-read_leading.ensures.1 in
    rw (exit.1, exit.2)
    (read_faulty g.S.Admit.admit_line c.args.state.now c.loop-rest.state c.read_leading.new.state c.loop-rest.waiting c.pull.new.self c.loop-rest.rest
    c.in_ok-count.count c.args.limit c.len.result _ (g.F.Feed.state c.loop-rest.feed) _ c.loop-rest.invariant.so_far c.in_ok-count.ensures.held
    c.if-count-eq0.true c.loop-rest-test.true
    (omega (arith, c.if-count-eq0.true, c.loop-rest.invariant.counts, c.loop-rest.invariant.so_far.count, c.in_ok-count.ensures.pulls.counts))
    (c.in_ok-count.ensures.pulls.end c.if-count-eq0.true) (omega (arith, c.len.ensures))
    c.in_err-read_leading.field-0.0 c.in_err-read_leading.ensures.read)

pub loop-rest-preserved : goal.loop-rest-preserved
loop-rest-preserved g c =
    let admit = g.S.Admit.admit_line in
    let inv = c.loop-rest.invariant in
    let n = c.in_ok-count.count in
    let so = held_more admit c.args.state.now c.loop-rest.state c.loop-rest.waiting c.pull.new.self c.loop-rest.rest (c.loop-rest.rest - n) n
    (c.args.limit + 1) _ _ _ inv.so_far c.in_ok-count.ensures.held (omega (arith, c.in_ok-count.ensures.within)) in
    record {
      so_far = took_more admit c.args.state.now c.loop-rest.state c.take_ended.new.state c.pull.new.self c.take_ended.new.self
          (c.loop-rest.rest - n) (c.args.limit + 1) _ _ so c.in-Ok.ensures.takes;
      unended = c.in-Ok.ensures.held;
      stands = stands_on (g.F.Feed.state c.args.feed.now) (g.F.Feed.state c.loop-rest.feed) (g.F.Feed.state c.pull.new.feed)
          (omega (arith, inv.counts, inv.so_far.count)) c.pull.ensures.pulls.onward
          inv.stands c.pull.ensures.pulls.stands;
      counts = omega (arith, inv.counts, c.in_ok-count.ensures.pulls.counts, c.in_ok-count.ensures.within);
      works = c.in_ok-count.ensures.pulls.works ∙ inv.works;
      sure = λ s. c.pull.ensures.pulls.stays_sure (inv.sure s);
    }

pub returns-in-Err-Fault-clause-read : goal.returns-in-Err-Fault-clause-read
returns-in-Err-Fault-clause-read g c =
    let admit = g.S.Admit.admit_line in
    let n = c.in_ok-count.count in
    let so = held_more admit c.args.state.now c.loop-rest.state c.loop-rest.waiting c.pull.new.self c.loop-rest.rest (c.loop-rest.rest - n) n
    (c.args.limit + 1) _ _ _ c.loop-rest.invariant.so_far c.in_ok-count.ensures.held (omega (arith, c.in_ok-count.ensures.within)) in
    let whole : c.loop-rest.rest - n - 1 + 1 ≡ c.loop-rest.rest - n = omega (arith, c.if-rest-eq0.false) in
    read_invalid admit c.args.state.now c.loop-rest.state c.take_ended.new.state c.pull.new.self (c.loop-rest.rest - n) c.args.limit _
    (g.F.Feed.state c.pull.new.feed) _ c.in-Err-Fault.fault so (rw c.in-Err-Fault.field-0-is at c.in-Err-Fault.ensures.takes)
    (subst (λ most. GaveAll most (g.F.Feed.state c.pull.new.feed) (g.F.Feed.state c.pass.new.feed)) whole c.in_ok-pass-in-Err-Fault.ensures.all)
    (omega (
      arith,
      c.loop-rest.invariant.counts,
      c.loop-rest.invariant.so_far.count,
      c.in_ok-count.ensures.pulls.counts,
      c.in_ok-count.ensures.within,
      c.pass.ensures.reads.onward,
    ))

pub take_ended-requires-clause-prefix : goal.take_ended-requires-clause-prefix
take_ended-requires-clause-prefix g c =
    prefix_held _ _ c.loop-rest.waiting c.pull.new.self _ _ c.loop-rest.invariant.unended c.in_ok-count.ensures.held c.len-before.ensures

pub returns-then-rest-eq0-clause-reads : goal.returns-then-rest-eq0-clause-reads
returns-then-rest-eq0-clause-reads g c =
    let inv = c.loop-rest.invariant in
    let pulls = c.pull.ensures.pulls in
    let counts = c.in_ok-count.ensures.pulls.counts in
    let n = c.in_ok-count.count in
    let so = held_more g.S.Admit.admit_line c.args.state.now c.loop-rest.state c.loop-rest.waiting c.pull.new.self c.loop-rest.rest
    (c.loop-rest.rest - n) n (c.args.limit + 1) _ _ _ inv.so_far c.in_ok-count.ensures.held (omega (arith, c.in_ok-count.ensures.within)) in
    let whole : length so.text ≡ c.args.limit + 1 = omega (arith, so.count, c.if-rest-eq0.true) in
    let all : (g.F.Feed.state c.pull.new.feed).given ≡ (g.F.Feed.state c.args.feed.now).given + (c.args.limit + 1) =
    omega (arith, inv.counts, counts, c.in_ok-count.ensures.within, c.if-rest-eq0.true) in
    refused_text c.args.limit (g.F.Feed.state c.args.feed.now) (g.F.Feed.state c.pull.new.feed) _ _ refl
    (record {
      failed = λ e. absurd cc;
      failed_first = λ e. absurd cc;
      long = λ e. long_reported _ _ so.text c.args.limit so.gave (omega (arith, whole));
      long_counts = λ e. all;
      long_works = λ e. c.in_ok-count.ensures.pulls.works ∙ inv.works;
      memory_works = λ e. absurd cc;
      memory_first = λ e. absurd cc;
    })
    (λ s e. absurd cc) (omega (arith, all)) (omega (arith, all))
    (stands_on (g.F.Feed.state c.args.feed.now) (g.F.Feed.state c.loop-rest.feed) (g.F.Feed.state c.pull.new.feed)
    (omega (arith, inv.counts, inv.so_far.count)) pulls.onward inv.stands pulls.stands)
    (λ s. pulls.stays_sure (inv.sure s))

pub returns-in_err-pass-in-Err-Fault-clause-reads : goal.returns-in_err-pass-in-Err-Fault-clause-reads
returns-in_err-pass-in-Err-Fault-clause-reads g c =
    let inv = c.loop-rest.invariant in
    let pulls = c.pull.ensures.pulls in
    let passes = c.pass.ensures.reads in
    let counts = c.in_ok-count.ensures.pulls.counts in
    let n = c.in_ok-count.count in
    let so = held_more g.S.Admit.admit_line c.args.state.now c.loop-rest.state c.loop-rest.waiting c.pull.new.self c.loop-rest.rest
    (c.loop-rest.rest - n) n (c.args.limit + 1) _ _ _ inv.so_far c.in_ok-count.ensures.held (omega (arith, c.in_ok-count.ensures.within)) in
    let some : c.loop-rest.rest - n ≢ 0 = c.if-rest-eq0.false in
    let given : (g.F.Feed.state c.pull.new.feed).given ≡ (g.F.Feed.state c.args.feed.now).given + length so.text =
    omega (arith, inv.counts, counts, c.in_ok-count.ensures.within, so.count) in
    let begun : (g.F.Feed.state c.args.feed.now).given ≤ (g.F.Feed.state c.loop-rest.feed).given = omega (arith, inv.counts, inv.so_far.count) in
    let was : c.pass.result ≡ Err c.in_err-pass-in-Err-Fault.field-0.0 = search rules in
    let exit = err_from_is_err_and c.from_residual-in_err-pass-in-Err-Fault.result c.from_residual-in_err-pass-in-Err-Fault.ensures.1 in
    rw (exit.1, exit.2)
    (refused_text c.args.limit (g.F.Feed.state c.args.feed.now) (g.F.Feed.state c.pass.new.feed) _ _ refl
    (fails_after (g.F.Feed.state c.args.feed.now) (g.F.Feed.state c.pull.new.feed) (g.F.Feed.state c.pass.new.feed) so.text c.args.limit
    (c.loop-rest.rest - n - 1) _ so.gave (omega (arith, so.count, some)) given (c.in_ok-count.ensures.pulls.works ∙ inv.works)
    c.in_err-pass-in-Err-Fault.ensures.reads.refused)
    (λ s e. passes.sure (pulls.stays_sure (inv.sure s)) (was ∙ ap Err e))
    (omega (arith, given, passes.onward)) (omega (arith, given, so.count, some, passes.reads))
    (stands_on (g.F.Feed.state c.args.feed.now) (g.F.Feed.state c.pull.new.feed) (g.F.Feed.state c.pass.new.feed) (omega (arith, begun, pulls.onward))
    passes.onward
    (stands_on (g.F.Feed.state c.args.feed.now) (g.F.Feed.state c.loop-rest.feed) (g.F.Feed.state c.pull.new.feed) begun pulls.onward inv.stands pulls.stands)
    passes.stands)
    (λ s. passes.stays_sure (pulls.stays_sure (inv.sure s))))
