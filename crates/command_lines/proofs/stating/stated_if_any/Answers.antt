use Rattle.std.proofs.Common.{rules, ◌≡◌, Err, IfErr, List, Ok, map, string_bytes, subst}
use Rattle.std.proofs.lemmas.Result.{IfErr-weaker}
use Rattle.clap.specs.Words.{FailsBy, HasKind, Text, fault_of, matches_of, subcommand_of}
use Rattle.command_lines.specs.CommandLine.{HandsOn}
use Rattle.command_lines.proofs.Accepted.{found_in, line_fails, no_fault, passed_on}
use Rattle.command_lines.proofs.stating.stated_if_any.Goals as goal

pub returns-in_err-matches-clause-refused : goal.returns-in_err-matches-clause-refused
returns-in_err-matches-clause-refused g c =
    let app = g.T.Stating.app in
    let arguments : List Text = map string_bytes c.args.arguments.now in
    let fails = line_fails _ app arguments c.requires.0 c.requires.1 c.try_get_matches_from_mut.result c.try_get_matches_from_mut.ensures.kinds in
    let error = c.in_err-matches.field-0.0 in
    let is : c.try_get_matches_from_mut.result ≡ Err error = search rules in
    let has : HasKind (fault_of app arguments) error = subst (FailsBy (fault_of app arguments)) is fails in
    let on : IfErr c.from_residual.result (HandsOn error) = search rules in
    IfErr-weaker c.from_residual.result _ _
    (λ fault. passed_on app (g.T.Stating.finds (matches_of app arguments) (subcommand_of app arguments)) arguments error fault has) on

pub returns-clause-accepted : goal.returns-clause-accepted
returns-clause-accepted g c =
    let app = g.T.Stating.app in
    let arguments : List Text = map string_bytes c.args.arguments.now in
    let is : c.try_get_matches_from_mut.result ≡ Ok c.in_ok-matches.matches = search rules in
    no_fault _ c.try_get_matches_from_mut.result c.in_ok-matches.matches
    (line_fails _ app arguments c.requires.0 c.requires.1 c.try_get_matches_from_mut.result c.try_get_matches_from_mut.ensures.kinds) is

pub returns-clause-found : goal.returns-clause-found
returns-clause-found g c =
    let app = g.T.Stating.app in
    let arguments : List Text = map string_bytes c.args.arguments.now in
    let same = found_in _ app arguments c.requires.0 c.requires.1 c.in_ok-matches.matches c.in_ok-matches.ensures.ok.2 in
    rw (← same.0, ← same.1) c.in_ok-find.ensures
