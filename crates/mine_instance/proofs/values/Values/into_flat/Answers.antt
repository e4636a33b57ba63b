use Rattle.std.proofs.Common.{sym, arith}
use Rattle.mine_instance.proofs.ByBlockFacts.{by_block-flat}
use Rattle.mine_instance.proofs.values.Values.into_flat.Goals as goal

pub returns : goal.returns
returns c =
    rw (← c.self.view_is) (sym (by_block-flat c.self.inside.count c.self.inside.width c.self.inside.all.items (omega arith)))
