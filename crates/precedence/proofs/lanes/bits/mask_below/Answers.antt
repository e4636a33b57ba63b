use Rattle.precedence.proofs.bits.Words.{has_bit_below}
use Rattle.precedence.proofs.lanes.bits.mask_below.Goals as goal

pub returns : goal.returns
returns c = λ p. has_bit_below c.args.past p c.requires.within
