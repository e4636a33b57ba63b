use Rattle.minelib_reading.proofs.encoded.EncodedRead.{lists_exact}
use Rattle.minelib_reading.proofs.laws.encoded_preds_are_read.Goals as goal

pub returns : goal.returns
returns c = λ n text. (lists_exact n text).back
