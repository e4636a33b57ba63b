use Rattle.check_command.proofs.Checks.{no_memory, status_listed}
use Rattle.check_command.proofs.check.check.Goals as goal

pub returns-in-Err-clause-status : goal.returns-in-Err-clause-status
returns-in-Err-clause-status g c = status_listed _ _ _ _ _ c.in-Err.refused _ _ _ c.in-Err.ensures.fault c.report.ensures.ends

pub returns-in-Err-clause-memory : goal.returns-in-Err-clause-memory
returns-in-Err-clause-memory g c = no_memory _ _ _ _ _ c.in-Err.refused _ _ _ c.in-Err.ensures.fault c.report.ensures.ends
