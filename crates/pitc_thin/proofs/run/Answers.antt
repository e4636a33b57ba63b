use Rattle.std.proofs.Common.{◌≡◌, ◌∙◌, ap, arith, length, map, string_bytes}
use Rattle.std.proofs.lemmas.List.{take_all}
use Rattle.plan_parts.specs.Destinations.{formulas_of}
use Rattle.plan_parts.specs.PlanFormulas.{formulas_of_plan}
use Rattle.devices.specs.sinks.FileSinkView.{unbegun}
use Rattle.pitc_thin.proofs.run.Goals as goal

pub returns-clause-ends : goal.returns-clause-ends
returns-clause-ends g c =
    let ends = c.thin-status.ensures.ends in
    let all : formulas_of c.as_slice.result.now ≡ formulas_of_plan c.args.plan.now =
    ap formulas_of c.as_slice.ensures.value ∙ c.loop-named.invariant
    ∙ ap (map (λ f. f.formula)) (take_all c.loop-named.named-index c.args.plan.now.formulas (omega (arith, ap length c.formulas-named-items.ensures.value, c.loop-named.auto.named-index-end, c.loop-named-test.false))) in
    let first : c.from_slot-sink.result ≡ unbegun g.F.Slot.FileSlot.reports (string_bytes c.args.out) =
    c.from_slot-sink.ensures ∙ ap (unbegun g.F.Slot.FileSlot.reports) c.slot.ensures.path in
    rw (← c.world.view_is) (record {
      done = λ zero. rw (all, first) at (ends.done zero);
      quiet = ends.quiet;
      kept = ends.kept;
      refused = λ bad. let reported = ends.refused bad in (reported.0, rw (all, first) at reported.1, reported.2);
    })

pub returns-clause-made : goal.returns-clause-made
returns-clause-made g c = rw (← c.world.view_is) (c.thin-status.ensures.made ∙ c.slot.ensures.made)
