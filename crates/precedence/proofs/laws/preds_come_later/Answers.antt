use Rattle.precedence.proofs.Later.{come_later}
use Rattle.precedence.proofs.laws.preds_come_later.Goals as goal

pub returns : goal.returns
returns c = come_later
