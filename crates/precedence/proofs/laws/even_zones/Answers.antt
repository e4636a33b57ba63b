use Rattle.precedence.proofs.LawFacts.{even_zones_are}
use Rattle.precedence.proofs.laws.even_zones.Goals as goal

pub returns : goal.returns
returns c = even_zones_are
