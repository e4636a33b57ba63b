use Rattle.pit_model.proofs.PartFaults.{part_fails}
use Rattle.pit_model.proofs.PartsAdded.{part_added}
use Rattle.pit_model.proofs.laws.invalid_records_add_nothing.Goals as goal

pub returns : goal.returns
returns c = record {
  kinds = λ k s cells kind. let all = part_fails s cells k in (all.reported kind, all.back kind);
  nothing = λ k s next cells kind fails adds. absurd (cc ((part_fails s cells k).back kind fails, (part_added s cells k).back next adds));
}
