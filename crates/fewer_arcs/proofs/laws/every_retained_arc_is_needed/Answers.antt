use Rattle.fewer_arcs.proofs.Needed.{needed}
use Rattle.fewer_arcs.proofs.laws.every_retained_arc_is_needed.Goals as goal

pub returns : goal.returns
returns c = needed
