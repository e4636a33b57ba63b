use Rattle.plan_parts.proofs.BandFacts.{recovers_by_band}
use Rattle.plan_parts.proofs.laws.a_leach_recovers_by_the_band_of_the_grade.Goals as goal

pub returns-clause-band : goal.returns-clause-band
returns-clause-band c = recovers_by_band
