use Rattle.minelib_reading.proofs.encoded.EncodedRead.{blocks_exact}
use Rattle.minelib_reading.proofs.laws.block_lines_are_encoded.Goals as goal

pub returns : goal.returns
returns c = λ text. (blocks_exact text).reported
