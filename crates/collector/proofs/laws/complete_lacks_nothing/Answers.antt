use Rattle.collector.proofs.Complete.{any_order, is_full, lacks_nothing}
use Rattle.collector.proofs.laws.complete_lacks_nothing.Goals as goal

pub returns-clause-full : goal.returns-clause-full
returns-clause-full c = λ files items order file whole moved within.
    is_full files order file (any_order files items order whole moved) within

pub returns-clause-nothing : goal.returns-clause-nothing
returns-clause-nothing c = λ files items order file place whole moved lacking.
    lacks_nothing files order file place (any_order files items order whole moved) lacking
