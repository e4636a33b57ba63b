use Rattle.std.proofs.Common.{ap, sym}
use Rattle.std.proofs.Output.{has_written_of_eq}
use Rattle.check_command.specs.Counts.{words_with}
use Rattle.check_command.proofs.counts.CountsDisplay.fmt.Goals as goal

pub returns-in-None-clause-writes : goal.returns-in-None-clause-writes
returns-in-None-clause-writes g c plain ok =
    has_written_of_eq _ _ _ _ _ (ap (words_with c.args.self.now) (sym c.in-None.is)) (c.write.ensures.writes plain ok)

pub returns-in-Some-clause-writes : goal.returns-in-Some-clause-writes
returns-in-Some-clause-writes g c plain ok =
    has_written_of_eq _ _ _ _ _ (ap (words_with c.args.self.now) (sym c.in-Some.is)) (c.write-in-Some.ensures.writes plain ok)
