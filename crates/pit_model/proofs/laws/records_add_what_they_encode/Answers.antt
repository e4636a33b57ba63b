use Rattle.pit_model.proofs.PartsAdded.{part_added}
use Rattle.pit_model.proofs.laws.records_add_what_they_encode.Goals as goal

pub returns : goal.returns
returns c = λ k s next cells. let all = part_added s cells k in (all.reported next, all.back next)
