use Rattle.std.proofs.Common.{◌≡◌, arith, subst, sym}
use Rattle.std.proofs.lemmas.List.{length-map}
use Rattle.std.proofs.lemmas.Result.{err_from_is_err_and}
use Rattle.devices.specs.feeds.FeedState.{all_remaining}
use Rattle.mine_instance.specs.Instance.{Instance}
use Rattle.plan_parts.specs.Destinations.{formulas_of}
use Rattle.run_threads.specs.Refusing.{HasFailed}
use Rattle.pit_compile.specs.Settings.{IsSettingsFault}
use Rattle.pit_compile.specs.Sinks.{sink_states, AreWritten}
use Rattle.refusals.specs.declared.refusal.Refusal.TheVariants.{Settings}
use Rattle.pit_compile.proofs.RunFacts.{cut_off, cut_is_not_settings, not_compiled}
use Rattle.pit_compile.proofs.running.run_with_starts.Goals as goal

pub returns-in_err-gathered-clause-runs : goal.returns-in_err-gathered-clause-runs
returns-in_err-gathered-clause-runs g c =
    let p = err_from_is_err_and c.from_residual.result c.from_residual.ensures.1 in
    let plan = c.args.plan.now in
    let formulas = formulas_of c.args.destinations.now in
    let remainders = all_remaining g.F.Feed.state c.args.feeds.items in
    let failed = HasFailed g.F.Feed.state c.args.feeds.items in
    let many = length-map c.args.feeds.items (λ feed. (g.F.Feed.state feed).remaining) in
    rw (p.1, p.2) (record {
      settings = λ kind. (
        λ e. subst (λ n. IsSettingsFault plan n formulas c.args.settings kind) (sym many) ((c.in_err-gathered.ensures.compiles.settings kind).0 (cc e)),
        λ h. cc ((c.in_err-gathered.ensures.compiles.settings kind).1 (subst (λ n. IsSettingsFault plan n formulas c.args.settings kind) many h)),
      );
      done = tt;
      refused = not_compiled plan remainders failed (sink_states g.S.Sink.state c.args.sinks.now) c.in_err-gathered.field-0.0
          c.in_err-gathered.ensures.compiles.refused;
      budget = tt;
    })

pub returns-in_err-write_texts-clause-runs : goal.returns-in_err-write_texts-clause-runs
returns-in_err-write_texts-clause-runs g c =
    let p = err_from_is_err_and c.from_residual-in_err-write_texts.result c.from_residual-in_err-write_texts.ensures.1 in
    let plan = c.args.plan.now in
    let formulas = formulas_of c.args.destinations.now in
    let remainders = all_remaining g.F.Feed.state c.args.feeds.items in
    let failed = HasFailed g.F.Feed.state c.args.feeds.items in
    let many = length-map c.args.feeds.items (λ feed. (g.F.Feed.state feed).remaining) in
    let old = sink_states g.S.Sink.state c.args.sinks.now in
    let new = sink_states g.S.Sink.state c.write_texts.new.sinks in
    let why = c.in_err-write_texts.field-0.0 in
    let cut = c.in_err-write_texts.ensures.refused in
    rw (p.1, p.2) (record {
      settings = λ kind. (
        λ e.
            let is : why ≡ Settings kind = cc e in
            absurd (cut_is_not_settings c.in_ok-gathered.field-0.instance old new why kind cut is),
        λ h. absurd (cc ((c.in_ok-gathered.ensures.compiles.settings kind).1
            (subst (λ n. IsSettingsFault plan n formulas c.args.settings kind) many h))),
      );
      done = tt;
      refused = cut_off plan remainders failed c.args.settings.valuers c.args.settings.capacity old new c.in_ok-gathered.field-0 why c.in_ok-gathered.ensures.compiles.done cut;
      budget = tt;
    })

pub returns-clause-runs : goal.returns-clause-runs
returns-clause-runs g c =
    let plan = c.args.plan.now in
    let formulas = formulas_of c.args.destinations.now in
    let old = sink_states g.S.Sink.state c.args.sinks.now in
    let new = sink_states g.S.Sink.state c.write_texts.new.sinks in
    let many = length-map c.args.feeds.items (λ feed. (g.F.Feed.state feed).remaining) in
    let made = c.in_ok-gathered.ensures.compiles.done in
    record {
      settings = λ kind. (
        λ e. absurd (cc e),
        λ h. absurd (cc ((c.in_ok-gathered.ensures.compiles.settings kind).1
            (subst (λ n. IsSettingsFault plan n formulas c.args.settings kind) many h))),
      );
      done = record {
        texts = made.texts;
        given = made.given;
        accepted = made.accepted;
        passed = made.passed;
        written = subst (λ (i : Instance). AreWritten i old new) made.instance_is c.in_ok-write_texts.ensures.written;
      };
      refused = tt;
      budget = omega (arith, c.in_ok-gathered.ensures.compiles.budget, many);
    }
