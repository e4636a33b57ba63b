use Rattle.std.proofs.Common.{length, refl, rules, ◌≡◌}
use Rattle.std.proofs.lemmas.Iterator.{items_from_collect}
use Rattle.std.proofs.lemmas.Iterator.Adapters.{YieldsList-from_vec}
use Rattle.std.specs.Vec.Iter.{into_iter_items, into_iter_len}
use Rattle.command_io.proofs.arguments.in_order.Goals as goal

pub returns : goal.returns
returns c =
    let counted : into_iter_len c.args.arguments ≡ length (into_iter_items c.args.arguments) = search rules in
    items_from_collect _ c.collect.ensures.ran (YieldsList-from_vec (into_iter_items c.args.arguments) refl counted)
