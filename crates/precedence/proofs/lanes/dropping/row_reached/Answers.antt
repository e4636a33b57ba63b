use Rattle.precedence.proofs.bits.RowsMet.{past_rises}
use Rattle.precedence.proofs.lanes.dropping.row_reached.Goals as goal

pub is_last_below-requires : goal.is_last_below-requires
is_last_below-requires c = past_rises c.args.table.now c.as_slice-past.result.now c.as_slice-past.ensures.value

pub start_near-requires : goal.start_near-requires
start_near-requires c = past_rises c.args.table.now c.as_slice-past.result.now c.as_slice-past.ensures.value
