use Rattle.precedence.proofs.LawFacts.{lists_rise}
use Rattle.precedence.proofs.laws.preds_rise.Goals as goal

pub returns : goal.returns
returns c = lists_rise
