use Rattle.std.proofs.Common.{◌≡◌, ◌∙◌, ◌++◌, [], ◌∷◌, Err, ap, map, refl, string_bytes}
use Rattle.std.proofs.lemmas.Result.{err_from_is_err_and}
use Rattle.refusals.specs.declared.refusal.Refusal.TheVariants.{OutOfMemory}
use Rattle.command_io.specs.declared.refused.Refused.TheVariants.{Run}
use Rattle.command_io.specs.RunState.{run_state}
use Rattle.plan_parts.specs.Destinations.{formulas_of}
use Rattle.thin_command.specs.CountsText.{counts_words}
use Rattle.thin_command.specs.declared.counts.ThinCounts.{ThinCounts}
use Rattle.thin_command.proofs.Thins.{cut_off, inputs_of, refused_line, refused_run, was_read}
use Rattle.thin_command.proofs.thin.thin_into.Goals as goal

pub returns-in_err-instance-clause-refused : goal.returns-in_err-instance-clause-refused
returns-in_err-instance-clause-refused g c =
    let p = err_from_is_err_and c.from_residual-in_err-instance.result c.from_residual-in_err-instance.ensures.1 in
    rw (p.1, p.2) (refused_run (inputs_of c.args.plan.now (formulas_of c.args.destinations.now) (map string_bytes c.args.zones.now) c.args.settings)
    (run_state (g.O.Opener.opened c.args.files.now) c.args.starts.now (g.S.Sink.state c.args.sink.now))
    (run_state (g.O.Opener.opened c.open_all.new.files) c.compile_with_starts.new.starts (g.S.Sink.state c.args.sink.now)) g.O.Opened.Feed.state
    c.in_ok-feeds.feeds.items c.in_err-instance.field-0.0 _ c.in_ok-feeds.ensures.opened refl
    (λ kind. let exact = c.in_err-instance.ensures.compiles.settings kind in (λ e. exact.0 (ap Err e), λ h. cc (exact.1 h)))
    c.in_err-instance.ensures.compiles.refused c.in_err-instance.ensures.spends.short refl)

pub returns-in_err-counts-clause-refused : goal.returns-in_err-counts-clause-refused
returns-in_err-counts-clause-refused g c =
    let p = err_from_is_err_and c.from_residual-in_err-counts.result c.from_residual-in_err-counts.ensures.1 in
    let inputs = inputs_of c.args.plan.now (formulas_of c.args.destinations.now) (map string_bytes c.args.zones.now) c.args.settings in
    let old = run_state (g.O.Opener.opened c.args.files.now) c.args.starts.now (g.S.Sink.state c.args.sink.now) in
    let new = run_state (g.O.Opener.opened c.open_all.new.files) c.compile_with_starts.new.starts (g.S.Sink.state c.write_reduced.new.sink) in
    let read = was_read inputs old new g.O.Opened.Feed.state c.in_ok-feeds.feeds.items c.in_ok-instance.field-0 c.in_ok-feeds.ensures.opened
    c.in_ok-instance.ensures.compiles.done c.in_ok-instance.ensures.spends.started in
    rw (p.1, p.2) (cut_off inputs old new g.O.Opened.Feed.state c.in_ok-instance.field-0.instance c.in_err-counts.field-0.0 _ refl read c.in_err-counts.ensures.refused)

pub returns-in_err-append_counts-clause-refused : goal.returns-in_err-append_counts-clause-refused
returns-in_err-append_counts-clause-refused g c =
    let p = err_from_is_err_and c.from_residual-in_err-append_counts.result c.from_residual-in_err-append_counts.ensures.1 in
    let reported : c.from_residual-in_err-append_counts.result ≡ Err (Run OutOfMemory) = cc (p.1, p.2) in
    let inputs = inputs_of c.args.plan.now (formulas_of c.args.destinations.now) (map string_bytes c.args.zones.now) c.args.settings in
    let old = run_state (g.O.Opener.opened c.args.files.now) c.args.starts.now (g.S.Sink.state c.args.sink.now) in
    let new = run_state (g.O.Opener.opened c.open_all.new.files) c.compile_with_starts.new.starts (g.S.Sink.state c.write_reduced.new.sink) in
    let read = was_read inputs old new g.O.Opened.Feed.state c.in_ok-feeds.feeds.items c.in_ok-instance.field-0 c.in_ok-feeds.ensures.opened
    c.in_ok-instance.ensures.compiles.done c.in_ok-instance.ensures.spends.started in
    rw reported (refused_line inputs old new g.O.Opened.Feed.state c.in_ok-instance.field-0.instance (Run OutOfMemory) read c.in_ok-counts.ensures.written refl)

pub returns-clause-done : goal.returns-clause-done
returns-clause-done g c =
    let inputs = inputs_of c.args.plan.now (formulas_of c.args.destinations.now) (map string_bytes c.args.zones.now) c.args.settings in
    let old = run_state (g.O.Opener.opened c.args.files.now) c.args.starts.now (g.S.Sink.state c.args.sink.now) in
    let new = run_state (g.O.Opener.opened c.open_all.new.files) c.compile_with_starts.new.starts (g.S.Sink.state c.write_reduced.new.sink) in
    let read = was_read inputs old new g.O.Opened.Feed.state c.in_ok-feeds.feeds.items c.in_ok-instance.field-0 c.in_ok-feeds.ensures.opened
    c.in_ok-instance.ensures.compiles.done c.in_ok-instance.ensures.spends.started in (
      c.in_ok-instance.field-0.instance,
      record { read = read; written = c.in_ok-counts.ensures.written },
      c.in_ok-append_counts.ensures.reported
          ∙ ap (λ (counts : ThinCounts). c.args.out.now.items ++ (counts_words counts ++ 10 ∷ [])) c.in_ok-counts.ensures.counts,
    )
