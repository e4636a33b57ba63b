use Rattle.std.proofs.Common.{◌-◌, ◌^◌, bit_and, bit_or, ap, ◌∙◌, arith}
use Rattle.std.proofs.lemmas.Nat.{one_shl}
use Rattle.precedence.specs.inner.lanes.Bits.{has_bit}
use Rattle.precedence.proofs.bits.Words.{has_bit_outside}
use Rattle.precedence.proofs.lanes.bits.cleared.Goals as goal

pub returns : goal.returns
returns c = λ p.
    let bits = c.args.bits in
    let mask = c.mask_below.result in
    ap (λ one. has_bit (bit_and bits (bit_or (one - 1) (2 ^ 64 - 1 - mask))) p) (one_shl c.args.first 64 (omega (arith, c.requires.some, c.requires.within)))
    ∙ has_bit_outside bits mask c.args.first c.args.past p (omega arith) (omega arith) (c.mask_below.ensures p)
