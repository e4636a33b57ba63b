use Rattle.std.proofs.lemmas.Result.{IfOk-weaker}
use Rattle.command_lines.proofs.Accepted.{job_line}
use Rattle.command_lines.proofs.stated_job.JobStating.command_line.Goals as goal

pub returns : goal.returns
returns c = IfOk-weaker c.command_line.result _ _ (λ command same. (same, job_line)) c.command_line.ensures
