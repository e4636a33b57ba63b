use Rattle.std.proofs.Common.{◌/◌, ◌^◌, ◌&&◌, ap, ◌∙◌}
use Rattle.precedence.specs.inner.lanes.Bits.{has_bit}
use Rattle.precedence.proofs.bits.Words.{has_bit_and, has_bit_shr}
use Rattle.precedence.proofs.lanes.bits.seen_at.Goals as goal

pub returns : goal.returns
returns c = λ i. has_bit_and c.args.lanes (c.args.word / 2 ^ c.args.at) i ∙ ap (λ b. has_bit c.args.lanes i && b) (has_bit_shr c.args.word c.args.at i)
