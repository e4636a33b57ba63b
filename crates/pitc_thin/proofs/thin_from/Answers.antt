use Rattle.std.proofs.Common.{◌∙◌, inl, string_bytes, subst}
use Rattle.std.proofs.lemmas.Result.{err_from_is_err_and}
use Rattle.command_io.specs.PlanFile.{IsNoPlanAt, IsPlanAt}
use Rattle.pitc_thin.proofs.thin_from.Goals as goal

pub returns-in_err-plan-clause-unread : goal.returns-in_err-plan-clause-unread
returns-in_err-plan-clause-unread g c =
    let p = err_from_is_err_and c.from_residual.result c.from_residual.ensures.1 in
    rw (p.1, p.2, ← c.world.view_is) (inl (subst (λ path. IsNoPlanAt g.O.Opened.Feed.state path (g.O.Opener.opened c.world.inside.files)
    (g.O.Opener.opened c.read_plan_file.new.files) c.in_err-plan.field-0.0) c.as_str.ensures.value c.in_err-plan.ensures.refused))

pub returns-clause-ends : goal.returns-clause-ends
returns-clause-ends g c =
    let ends = c.in_ok-run.ensures.ends in
    let read = subst (λ path. IsPlanAt g.O.Opened.Feed.state path (g.O.Opener.opened c.world.inside.files)
    (g.O.Opener.opened c.read_plan_file.new.files) c.in_ok-plan.plan) c.as_str.ensures.value c.in_ok-plan.ensures.plan in
    rw (← c.world.view_is) (
      c.in_ok-run.ensures.made,
      record {
        done = λ zero. record { plan = _; between = _; read = read; reported = rw c.as_slice.ensures.value at (ends.done zero) };
        quiet = ends.quiet;
        kept = ends.kept;
        refused = λ bad.
            let reported = ends.refused bad in
            (reported.0, record { plan = _; between = _; read = read; why = rw c.as_slice.ensures.value at reported.1 }, reported.2);
      },
    )
