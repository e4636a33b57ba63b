use Rattle.minelib_reading.proofs.encoded.EncodedDenotes.{cpit_encoded, encoded_cpit}
use Rattle.minelib_reading.proofs.laws.cpits_are_encoded.Goals as goal

pub returns : goal.returns
returns c = λ n text parts. (cpit_encoded n text parts, encoded_cpit n text parts)
