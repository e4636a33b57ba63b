use Rattle.zone_csv.proofs.ZoneFacts.{zone_states}
use Rattle.zone_csv.proofs.laws.zone_files_are_encoded.Goals as goal

pub returns : goal.returns
returns c grid zone text blocks sizes small = zone_states grid zone sizes small text blocks
