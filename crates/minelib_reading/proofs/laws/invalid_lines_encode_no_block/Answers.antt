use Rattle.minelib_reading.proofs.encoded.EncodedRead.{bad_block}
use Rattle.minelib_reading.proofs.laws.invalid_lines_encode_no_block.Goals as goal

pub returns : goal.returns
returns c = bad_block
