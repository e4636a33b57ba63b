use Rattle.zone_csv.proofs.ZoneFacts.{zone_fails}
use Rattle.zone_csv.proofs.laws.zone_faults_are_first.Goals as goal

pub returns : goal.returns
returns c grid zone text blocks fault sizes small = zone_fails grid zone sizes small text blocks fault
