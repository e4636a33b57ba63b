use Rattle.std.proofs.Common.{◌≡◌, Err, List, ap, refl, subst, ℕ}
use Rattle.std.proofs.lemmas.Result.{err_from_is_err_and}
use Rattle.command_io.specs.declared.refused.Refused.TheVariants.{Run}
use Rattle.compile_command.specs.Printed.{IsNoPipe}
use Rattle.plan_parts.specs.Destinations.{formulas_of}
use Rattle.compile_command.proofs.task.run_pipe.Goals as goal

pub returns-in_err-pipe_with_starts-clause-refused : goal.returns-in_err-pipe_with_starts-clause-refused
returns-in_err-pipe_with_starts-clause-refused g c =
    let p = err_from_is_err_and c.from_residual.result c.from_residual.ensures.1 in
    let ended = c.in_err-pipe_with_starts in
    let Why : List (List ℕ) → Type 0 = λ zones. IsNoPipe c.args.model.now.plan (formulas_of c.args.destinations.now) zones c.args.starts.now
    c.pipe_with_starts.new.starts (Run ended.field-0.0) in
    let why : Why c.zones-zones.result.now = (
      ended.field-0.0,
      refl,
      λ kind. (λ e. (ended.ensures.settings kind).0 (ap Err e), λ h. cc ((ended.ensures.settings kind).1 h)),
      ended.ensures.refused,
      ended.ensures.spends.short,
    ) in
    rw (p.1, p.2) (subst Why c.zones-zones.ensures why)
