use Rattle.std.proofs.Common.{◌≡◌, ◌∙◌, ap, arith, length, map}
use Rattle.std.proofs.lemmas.List.{take_all}
use Rattle.compile_command.specs.Task.{plan_in}
use Rattle.plan_parts.specs.Destinations.{formulas_of}
use Rattle.plan_parts.specs.PlanFormulas.{formulas_of_plan}
use Rattle.pitc.proofs.run.Goals as goal

pub returns-clause-ends : goal.returns-clause-ends
returns-clause-ends g c =
    let ends = c.run.ensures.ends in
    let all : formulas_of c.as_slice-destinations.result.now ≡ formulas_of_plan (plan_in c.args.task.now) =
    ap formulas_of c.as_slice-destinations.ensures.value ∙ c.loop-named.invariant
    ∙ ap (map (λ f. f.formula)) (take_all c.loop-named.named-index (plan_in c.args.task.now).formulas (omega (arith, ap (λ p. length p.formulas) c.plan.ensures, ap length c.formulas-named-items.ensures.value, c.loop-named.auto.named-index-end, c.loop-named-test.false))) in
    record {
      done = λ zero. rw all at (ends.done zero);
      quiet = ends.quiet;
      kept = ends.kept;
      refused = λ bad. let reported = ends.refused bad in (reported.0, rw all at reported.1, reported.2);
    }
