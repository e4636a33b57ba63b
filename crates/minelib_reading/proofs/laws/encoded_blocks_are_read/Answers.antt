use Rattle.minelib_reading.proofs.encoded.EncodedRead.{blocks_exact}
use Rattle.minelib_reading.proofs.laws.encoded_blocks_are_read.Goals as goal

pub returns : goal.returns
returns c = λ text. (blocks_exact text).back
