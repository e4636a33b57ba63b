use Rattle.std.proofs.lemmas.Result.{err_from_is_err_and}
use Rattle.std.proofs.Common.{◌≡◌, ◌++◌, ◌∙◌, Err, subst, sym, ap, rules}
use Rattle.pit_compile.specs.ZoneFiles.{HasPassed, instance_from}
use Rattle.pit_compile.specs.Settings.{IsSettingsFault}
use Rattle.pit_compile.specs.Verdict.{IsAccepted}
use Rattle.refusals.specs.declared.refusal.Refusal.TheVariants.{Settings, OutOfMemory}
use Rattle.plan_parts.specs.Destinations.{formulas_of}
use Rattle.compile_command.specs.Printed.{pipe_settings, PipeRefused}
use Rattle.command_io.specs.Sections.{printed}
use Rattle.compile_command.proofs.Borrowed.{given_texts, refused_by, refusal_in, reported_fault, kind_in}
use Rattle.compile_command.proofs.pipe_form.pipe_with_starts.Goals as goal

pub returns-clause-settings : goal.returns-clause-settings
returns-clause-settings g c = λ kind. (
  λ e. absurd cc,
  λ h. let clash = sym c.in_ok-require_settings.was ∙ (c.require_settings.ensures.exact kind).1 h in absurd cc,
)

pub returns-in_err-require_settings-clause-settings : goal.returns-in_err-require_settings-clause-settings
returns-in_err-require_settings-clause-settings g c =
    let reported : c.from_residual.result ≡ Err (Settings c.in_err-require_settings.field-0.0) = search rules in
    λ kind. (
      λ e. (c.require_settings.ensures.exact kind).0
          (c.in_err-require_settings.was ∙ ap (λ r. Err (kind_in (refusal_in r))) (sym reported ∙ e)),
      λ h. reported ∙ ap (λ r. Err (Settings (reported_fault r))) (sym c.in_err-require_settings.was ∙ (c.require_settings.ensures.exact kind).1 h),
    )

pub returns-in_err-feeds-clause-settings : goal.returns-in_err-feeds-clause-settings
returns-in_err-feeds-clause-settings g c =
    let reported : c.from_residual-in_err-feeds.result ≡ Err OutOfMemory = search rules in
    λ kind. (
      λ e. let clash = sym reported ∙ e in absurd cc,
      λ h. let clash = sym c.in_ok-require_settings.was ∙ (c.require_settings.ensures.exact kind).1 h in absurd cc,
    )

pub returns-in_err-compiled-clause-settings : goal.returns-in_err-compiled-clause-settings
returns-in_err-compiled-clause-settings g c =
    let reported : c.from_residual-in_err-compiled.result ≡ Err c.in_err-compiled.field-0.0 = search rules in
    λ kind. (
      λ e. subst (λ n. IsSettingsFault c.args.plan.now n (formulas_of c.args.destinations.now) pipe_settings kind)
          c.in_ok-feeds.ensures.count
          ((c.compile_with_starts.ensures.compiles.settings kind).0 (c.in_err-compiled.was ∙ ap (λ r. Err (refusal_in r)) (sym reported ∙ e))),
      λ h. let clash = sym c.in_ok-require_settings.was ∙ (c.require_settings.ensures.exact kind).1 h in absurd cc,
    )

pub returns-in_err-print-clause-settings : goal.returns-in_err-print-clause-settings
returns-in_err-print-clause-settings g c =
    let p = err_from_is_err_and c.from_residual-in_err-print.result c.from_residual-in_err-print.ensures.1 in
    let reported : c.from_residual-in_err-print.result ≡ Err OutOfMemory = cc (p.1, p.2) in
    λ kind. (
      λ e. let clash = sym reported ∙ e in absurd cc,
      λ h. let clash = sym c.in_ok-require_settings.was ∙ (c.require_settings.ensures.exact kind).1 h in absurd cc,
    )

pub returns-in_err-compiled-clause-refused : goal.returns-in_err-compiled-clause-refused
returns-in_err-compiled-clause-refused g c =
    let plan = c.args.plan.now in
    let formulas = formulas_of c.args.destinations.now in
    let zones = c.args.zones.now in
    let fact : PipeRefused plan formulas zones c.in_err-compiled.field-0.0 =
    refused_by _ plan formulas zones _ c.in_ok-feeds.feeds.items c.in_ok-feeds.ensures.remaining c.in_ok-feeds.ensures.sure c.in_err-compiled.field-0.0
    (λ kind e. subst (λ n. IsSettingsFault plan n formulas pipe_settings kind) c.in_ok-feeds.ensures.count
    ((c.in_err-compiled.ensures.compiles.settings kind).0 (ap Err e))) c.in_err-compiled.ensures.compiles.refused in search rules

pub returns-clause-passed : goal.returns-clause-passed
returns-clause-passed g c =
    let done = c.in_ok-compiled.ensures.compiles.done in
    subst (λ texts. HasPassed c.args.plan.now texts 4 64 c.in_ok-compiled.compiled.gathered)
    (given_texts _ c.args.zones.now done.texts c.in_ok-feeds.ensures.remaining done.given) done.passed

pub returns-clause-printed : goal.returns-clause-printed
returns-clause-printed g c =
    let done = c.in_ok-compiled.ensures.compiles.done in
    let same = given_texts _ c.args.zones.now done.texts c.in_ok-feeds.ensures.remaining done.given in
    record {
      accepted = subst (λ texts. IsAccepted c.args.plan.now texts) same done.accepted;
      appended = subst (λ i. c.print.new.out.items ≡ c.args.out.now.items ++ printed i) done.instance_is c.in_ok-print.ensures.ok
          ∙ ap (λ texts. c.args.out.now.items ++ printed (instance_from c.args.plan.now texts)) same;
    }

pub returns-in_err-print-clause-refused : goal.returns-in_err-print-clause-refused
returns-in_err-print-clause-refused g c =
    let p = err_from_is_err_and c.from_residual-in_err-print.result c.from_residual-in_err-print.ensures.1 in
    let reported : c.from_residual-in_err-print.result ≡ Err OutOfMemory = cc (p.1, p.2) in rw reported tt
