use Rattle.std.proofs.lemmas.Result.{IfOk-weaker}
use Rattle.command_lines.proofs.Commands.{has_both}
use Rattle.command_lines.proofs.command_line.command_line.Goals as goal

pub returns : goal.returns
returns c =
    IfOk-weaker c.subcommand-2.result _ _
    (λ new adds. has_both c.top_command.result c.in_ok-compile.compile c.in_ok-check.check c.in_ok-subcommand.field-0 new
    c.top_command.ensures c.in_ok-compile.ensures c.in_ok-check.ensures c.in_ok-subcommand.ensures adds)
    c.subcommand-2.ensures
