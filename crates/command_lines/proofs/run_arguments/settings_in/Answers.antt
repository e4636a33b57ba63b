use Rattle.std.proofs.Common.{codes}
use Rattle.std.proofs.lemmas.Option.{MatchOption-at_none}
use Rattle.clap.specs.Words.{found_of, rows_of}
use Rattle.command_lines.specs.CommandLine.{FindsNumber}
use Rattle.command_lines.proofs.run_arguments.settings_in.Goals as goal

pub returns-in_err-valuers : goal.returns-in_err-valuers
returns-in_err-valuers c =
    let rows = rows_of (found_of c.args.found.now) in
    let none = MatchOption-at_none _ (FindsNumber rows (codes "valuers") 64) c.in_err-valuers.was c.number_of_argument.ensures in
    rw c.from_residual.ensures (λ settings found. none settings.valuers found.0)

pub returns-in_err-capacity : goal.returns-in_err-capacity
returns-in_err-capacity c =
    let rows = rows_of (found_of c.args.found.now) in
    let none = MatchOption-at_none _ (FindsNumber rows (codes "capacity") 4096) c.in_err-capacity.was c.number_of_argument-2.ensures in
    rw c.from_residual-in_err-capacity.ensures (λ settings found. none settings.capacity found.1)
