use Rattle.std.proofs.Common.{◌≡◌, ◌∙◌, ℕ, ◌<◌, List, All, ap, length, subst, sym}
use Rattle.std.proofs.lemmas.Result.{err_from_is_err_and}
use Rattle.fewer_arcs.specs.Reduced.{reduced}
use Rattle.thin_command.specs.Thin.{IsStopped}
use Rattle.devices.specs.sinks.SinkState.{IsWritten}
use Rattle.thin_command.proofs.Answered.{sink_err, sink_ok, thin_is}
use Rattle.thin_command.proofs.Belows.{valid_reduced}
use Rattle.thin_command.proofs.thin_writing.write_reduced.Goals as goal

pub write_lists-requires-clause-below : goal.write_lists-requires-clause-below
write_lists-requires-clause-below g c =
    let same : c.new-reduced.result ≡ reduced c.args.instance.preds = c.new-reduced.ensures ∙ ap reduced c.parts_of-rows.ensures.preds in
    subst (λ (lists : List (List ℕ)). All (λ ids. All (λ id. id < length lists) ids) lists) (sym same) (valid_reduced c.args.instance c.requires)

pub returns-in_err-retained-clause-refused : goal.returns-in_err-retained-clause-refused
returns-in_err-retained-clause-refused g c =
    let p = err_from_is_err_and c.from_residual-in_err-retained.result c.from_residual-in_err-retained.ensures.1 in
    let same : c.new-reduced.result ≡ reduced c.args.instance.preds = c.new-reduced.ensures ∙ ap reduced c.parts_of-rows.ensures.preds in
    let stopped = sink_err _ _ _ c.write_lists.result c.in_err-retained.field-0.0 c.write_lists.ensures.writes (sym c.in_sink.ensures ∙ c.in_err-retained.was) in
    rw (p.1, p.2) (subst (λ (text : List ℕ). IsStopped text (g.S.Sink.state c.args.sink.now) (g.S.Sink.state c.write_lists.new.sink) c.in_err-retained.field-0.0)
    (thin_is c.args.instance c.new-reduced.result same) stopped)

pub returns-clause-written : goal.returns-clause-written
returns-clause-written g c =
    let same : c.new-reduced.result ≡ reduced c.args.instance.preds = c.new-reduced.ensures ∙ ap reduced c.parts_of-rows.ensures.preds in
    subst (λ (text : List ℕ). IsWritten text (g.S.Sink.state c.args.sink.now) (g.S.Sink.state c.write_lists.new.sink))
    (thin_is c.args.instance c.new-reduced.result same)
    (sink_ok _ _ _ c.write_lists.result c.in_ok-retained.retained c.write_lists.ensures.writes (sym c.in_sink.ensures ∙ c.in_ok-retained.was))
