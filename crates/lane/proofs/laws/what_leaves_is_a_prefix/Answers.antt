use Rattle.lane.proofs.Steps.{leaving_is_prefix, taken_is_prefix}
use Rattle.lane.proofs.laws.what_leaves_is_a_prefix.Goals as goal

pub returns : goal.returns
returns c = record { runs = leaving_is_prefix; states = taken_is_prefix }
