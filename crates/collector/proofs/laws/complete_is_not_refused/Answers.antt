use Rattle.std.proofs.Common.{subst, List}
use Rattle.rows.specs.declared.item.Item.{Item}
use Rattle.collector.specs.Complete.{IsComplete}
use Rattle.collector.proofs.Complete.{any_order, not_refused}
use Rattle.collector.proofs.laws.complete_is_not_refused.Goals as goal

pub returns : goal.returns
returns c = λ files items order held rest item whole moved cut.
    not_refused files held rest item
    (subst (λ (xs : List Item). IsComplete files xs) cut (any_order files items order whole moved))
