use Rattle.pit_units.proofs.Unique.{only_shortest}
use Rattle.pit_units.proofs.Written.{shortest_shape}
use Rattle.pit_units.proofs.laws.written_is_shortest.Goals as goal

pub returns-clause-shortest_text : goal.returns-clause-shortest_text
returns-clause-shortest_text c = shortest_shape

pub returns-clause-only : goal.returns-clause-only
returns-clause-only c = only_shortest
