use Rattle.minelib_reading.proofs.encoded.EncodedDenotes.{denoted_encoded, encoded_denoted}
use Rattle.minelib_reading.proofs.laws.instances_are_encoded.Goals as goal

pub returns : goal.returns
returns c = λ blocks prec pcpsp i. (denoted_encoded blocks prec pcpsp i, encoded_denoted blocks prec pcpsp i)
