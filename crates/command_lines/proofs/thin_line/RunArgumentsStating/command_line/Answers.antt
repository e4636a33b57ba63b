use Rattle.std.proofs.lemmas.Result.{IfOk-weaker}
use Rattle.command_lines.proofs.Accepted.{run_line}
use Rattle.command_lines.proofs.thin_line.RunArgumentsStating.command_line.Goals as goal

pub returns : goal.returns
returns c = IfOk-weaker c.thin_command.result _ _ (λ command same. (same, run_line)) c.thin_command.ensures
