use Rattle.precedence.proofs.Order.{in_order}
use Rattle.precedence.proofs.laws.identifiers_rise.Goals as goal

pub returns : goal.returns
returns c = in_order
