use Rattle.precedence.proofs.LawFacts.{preds_higher}
use Rattle.precedence.proofs.laws.preds_are_higher.Goals as goal

pub returns : goal.returns
returns c = preds_higher
