use Rattle.std.proofs.Common.{◌≡◌, ◌∙◌, All, ap, sym, subst, get_or}
use Rattle.std.proofs.lemmas.Result.{err_from_is_err_and}
use Rattle.std.proofs.lemmas.List.{take_all}
use Rattle.minelib_lines.specs.declared.text_name.TextName.TheVariants.{Blocks}
use Rattle.pit_compile.specs.Sinks.{sink_states}
use Rattle.minelib_lines.specs.TextNames.{all_texts}
use Rattle.pit_compile.proofs.OneMoreSink.{accepted, IsHeld, name_at, of_each, refused, wrote}
use Rattle.pit_compile.proofs.sink_writing.write_texts.Goals as goal

pub returns-in_err-in_sink-clause-refused : goal.returns-in_err-in_sink-clause-refused
returns-in_err-in_sink-clause-refused g c =
    let p = err_from_is_err_and c.from_residual.result c.from_residual.ensures.1 in
    let k = c.loop-name.name-index in
    let name = get_or c.all-name-items.result k Blocks in
    let at : name ≡ name_at k = ap (λ names. get_or names k Blocks) c.all-name-items.ensures in
    let state = g.S.Sink.state in
    rw (p.1, p.2) (refused state c.args.instance.now (sink_states state c.args.sinks.now) c.loop-name.sinks c.write_named.new.sink
    k c.loop-name-test.true name at (state c.of_mut.result.now) (ap state c.of_mut.ensures.value)
    c.loop-name.invariant.written c.loop-name.invariant.still c.write_named.result c.in_err-in_sink.field-0.0
    c.write_named.ensures.writes (sym (c.in_err-in_sink.was) ∙ c.in_sink.ensures))

pub loop-name-preserved : goal.loop-name-preserved
loop-name-preserved g c =
    let k = c.loop-name.name-index in
    let name = get_or c.all-name-items.result k Blocks in
    let at : name ≡ name_at k = ap (λ names. get_or names k Blocks) c.all-name-items.ensures in
    let state = g.S.Sink.state in
    let more = wrote state c.args.instance.now (sink_states state c.args.sinks.now) c.loop-name.sinks c.write_named.new.sink
    k c.loop-name-test.true name at (state c.of_mut.result.now) (ap state c.of_mut.ensures.value)
    c.loop-name.invariant.written c.loop-name.invariant.still
    (accepted name c.write_named.result c.in_ok-in_sink.field-0 c.write_named.ensures.writes
    (sym (c.in_ok-in_sink.was) ∙ c.in_sink.ensures)) in
    record { names = c.all-name-items.ensures; written = more.0; still = more.1 }

pub returns-clause-written : goal.returns-clause-written
returns-clause-written g c =
    let Held = IsHeld c.args.instance.now (sink_states g.S.Sink.state c.args.sinks.now) (sink_states g.S.Sink.state c.loop-name.sinks) in
    of_each Held (subst (All Held) (take_all c.loop-name.name-index all_texts c.loop-name-test.false) c.loop-name.invariant.written)
