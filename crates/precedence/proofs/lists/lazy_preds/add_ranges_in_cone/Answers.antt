use Rattle.std.proofs.Common.{◌^◌}
use Rattle.precedence.proofs.lists.lazy_preds.add_ranges_in_cone.Goals as goal

pub add_ranges_in_rows-requires-clause-in_order : goal.add_ranges_in_rows-requires-clause-in_order
add_ranges_in_rows-requires-clause-in_order c = rw c.as_slice-rows.ensures.value (10 ^ 15, c.of-table.result.now.in_order)

pub add_ranges_in_rows-requires-else-places-clause-in_order : goal.add_ranges_in_rows-requires-else-places-clause-in_order
add_ranges_in_rows-requires-else-places-clause-in_order c = rw c.as_slice-rows.ensures.value (10 ^ 15, c.of-table.result.now.in_order)
