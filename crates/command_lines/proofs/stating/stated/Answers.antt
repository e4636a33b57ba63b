use Rattle.std.proofs.Common.{rules, ◌≡◌, List, None, map, string_bytes}
use Rattle.clap.specs.Words.{Text, matches_of, subcommand_of}
use Rattle.command_lines.proofs.Accepted.{none_found, was_found}
use Rattle.command_lines.proofs.stating.stated.Goals as goal

pub returns-in-Some-clause-stated : goal.returns-in-Some-clause-stated
returns-in-Some-clause-stated g c =
    let app = g.T.Stating.app in
    let arguments : List Text = map string_bytes c.args.arguments.now in
    was_found app (g.T.Stating.finds (matches_of app arguments) (subcommand_of app arguments)) arguments c.in_ok-stated.field-0 c.in-Some.stated
    c.in_ok-stated.ensures.found c.in-Some.is

pub returns-clause-refused : goal.returns-clause-refused
returns-clause-refused g c =
    let app = g.T.Stating.app in
    let arguments : List Text = map string_bytes c.args.arguments.now in
    let none : c.in_ok-stated.field-0 ≡ None = search rules in
    none_found app (g.T.Stating.finds (matches_of app arguments) (subcommand_of app arguments)) arguments c.in_ok-stated.field-0 c.from.result
    c.in_ok-stated.ensures.found none
