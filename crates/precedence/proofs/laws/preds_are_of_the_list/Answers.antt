use Rattle.precedence.proofs.LawFacts.{of_the_list}
use Rattle.precedence.proofs.laws.preds_are_of_the_list.Goals as goal

pub returns : goal.returns
returns c = of_the_list
