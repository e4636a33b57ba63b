use Rattle.compile_command.proofs.SameRuns.{all_the_same, not_both, one_verdict, same_rows}
use Rattle.compile_command.proofs.laws.runs_of_the_same_files_agree.Goals as goal

pub returns-clause-done : goal.returns-clause-done
returns-clause-done c = all_the_same

pub returns-clause-compiled : goal.returns-clause-compiled
returns-clause-compiled c = same_rows

pub returns-clause-refused : goal.returns-clause-refused
returns-clause-refused c = one_verdict

pub returns-clause-accepted : goal.returns-clause-accepted
returns-clause-accepted c = not_both
