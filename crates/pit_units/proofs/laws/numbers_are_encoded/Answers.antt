use Rattle.pit_units.proofs.EncodedFacts.{stands_within, within_stands}
use Rattle.pit_units.proofs.laws.numbers_are_encoded.Goals as goal

pub returns : goal.returns
returns c max low high text m few = (within_stands max low high text m few, stands_within max low high text m few)
