use Rattle.precedence.proofs.LawFacts.{one_slope_is}
use Rattle.precedence.proofs.laws.one_slope.Goals as goal

pub returns : goal.returns
returns c = one_slope_is
