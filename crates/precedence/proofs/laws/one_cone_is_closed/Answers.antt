use Rattle.precedence.proofs.closed.OneCone.{closed}
use Rattle.precedence.proofs.laws.one_cone_is_closed.Goals as goal

pub returns : goal.returns
returns c = closed
