use Rattle.collector.proofs.Complete.{any_order}
use Rattle.collector.proofs.laws.complete_in_any_order.Goals as goal

pub returns : goal.returns
returns c = λ files items order whole moved. any_order files items order whole moved
