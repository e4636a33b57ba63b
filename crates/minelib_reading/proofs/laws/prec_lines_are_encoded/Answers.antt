use Rattle.minelib_reading.proofs.encoded.EncodedRead.{lists_exact}
use Rattle.minelib_reading.proofs.laws.prec_lines_are_encoded.Goals as goal

pub returns : goal.returns
returns c = λ n text. (lists_exact n text).reported
