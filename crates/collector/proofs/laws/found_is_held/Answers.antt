use Rattle.collector.proofs.Complete.{row-held, end-held}
use Rattle.collector.proofs.laws.found_is_held.Goals as goal

pub returns-clause-row : goal.returns-clause-row
returns-clause-row c = λ items file place v e. row-held items file place v e

pub returns-clause-end : goal.returns-clause-end
returns-clause-end c = λ items file count e. end-held items file count e
