use Rattle.std.proofs.Common.{Err, ◌+◌, ap, map, refl, string_bytes, subst, sym}
use Rattle.std.proofs.lemmas.List.{length-map}
use Rattle.std.proofs.lemmas.Result.{err_from_is_err_and}
use Rattle.pit_compile.specs.Sinks.{sink_states}
use Rattle.pit_compile.specs.Starts.{AreStartsOf}
use Rattle.plan_parts.specs.Destinations.{formulas_of}
use Rattle.command_io.specs.RunState.{run_state}
use Rattle.compile_command.proofs.Compiles.{refused_run}
use Rattle.compile_command.proofs.compile.compile_into.Goals as goal

pub returns-in_err-gathered-clause-refused : goal.returns-in_err-gathered-clause-refused
returns-in_err-gathered-clause-refused g c =
    let p = err_from_is_err_and c.from_residual-in_err-gathered.result c.from_residual-in_err-gathered.ensures.1 in
    rw (p.1, p.2) (refused_run (record {
      plan = c.args.plan.now;
      formulas = formulas_of c.args.destinations.now;
      zones = map string_bytes c.args.zones.now;
      settings = c.args.settings;
    }) (run_state (g.O.Opener.opened c.args.files.now) c.args.starts.now (sink_states g.S.Sink.state c.args.sinks.now))
    (run_state (g.O.Opener.opened c.open_all.new.files) c.run_with_starts.new.starts (sink_states g.S.Sink.state c.run_with_starts.new.sinks))
    g.O.Opened.Feed.state c.in_ok-feeds.feeds.items c.in_err-gathered.field-0.0 _ c.in_ok-feeds.ensures.opened refl
    (λ kind. (
      λ e. (c.in_err-gathered.ensures.runs.settings kind).0 (ap Err e),
      λ h. cc ((c.in_err-gathered.ensures.runs.settings kind).1 h),
    )) c.in_err-gathered.ensures.runs.refused
    (subst (λ n. AreStartsOf (c.args.settings.valuers + n) c.args.starts.now c.run_with_starts.new.starts c.in_err-gathered.field-0.0)
    (sym (length-map c.in_ok-feeds.feeds.items (λ feed. (g.O.Opened.Feed.state feed).remaining))) c.in_err-gathered.ensures.spends.short))
