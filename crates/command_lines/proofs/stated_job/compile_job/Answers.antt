use Rattle.std.proofs.Common.{rules, ◌≡◌, None, refl}
use Rattle.std.proofs.lemmas.Option.{MatchOption-at_none, MatchOption-at_some}
use Rattle.clap.specs.Words.{found_of, rows_of}
use Rattle.command_lines.specs.CommandLine.{FindsArguments}
use Rattle.command_lines.proofs.FoundJob.{no_compile}
use Rattle.command_lines.proofs.stated_job.compile_job.Goals as goal

pub returns-in_default : goal.returns-in_default
returns-in_default c =
    let rows = rows_of (found_of c.args.found.now) in
    let none : c.in_ok-run.field-0 ≡ None = search rules in
    no_compile rows (MatchOption-at_none _ (FindsArguments rows) none c.in_ok-run.ensures)

pub returns : goal.returns
returns c =
    let rows = rows_of (found_of c.args.found.now) in
    record { rows = rows; is_compile = refl; has_arguments = MatchOption-at_some _ (FindsArguments rows) _ c.in-Some.is c.in_ok-run.ensures }
