use Rattle.std.proofs.Common.{◌≡◌, arith, length, rules, subst}
use Rattle.std.specs.Prelude.{IfErr}
use Rattle.plan_parts.specs.Destinations.{formulas_of}
use Rattle.pit_compile.specs.Suits.{Suits}
use Rattle.pit_compile.specs.inner.AfterStart.{IsAfterStart}
use Rattle.pit_compile.proofs.SettingsFacts.{none_where_suits}
use Rattle.pit_compile.proofs.compiling.compile_with_starts.Goals as goal

pub returns-clause-compiles : goal.returns-clause-compiles
returns-clause-compiles g c =
    let plan = c.args.plan.now in
    let formulas = formulas_of c.args.destinations.now in
    let count : c.len.result ≡ length c.args.feeds.items = omega arith in
    let fit = subst (λ n. Suits plan n formulas c.args.settings) count c.in_ok-require_settings.ensures.fit in
    record {
      settings = λ kind. (
        λ e. absurd (subst (λ r. IfErr r IsAfterStart) e c.compiled_of.ensures.following),
        λ h. absurd (none_where_suits plan (length c.args.feeds.items) formulas c.args.settings kind fit h),
      );
      done = search rules;
      valid = c.compiled_of.ensures.valid;
      refused = search rules;
      budget = search rules;
    }
