use Rattle.std.proofs.Common.{◌≡◌, ◌-◌, ◌*◌, ◌%◌, ◌^◌, ap, ◌∙◌, arith}
use Rattle.precedence.specs.inner.lanes.Bits.{has_bit}
use Rattle.precedence.proofs.bits.Words.{has_bit_mask, moved_mask}
use Rattle.precedence.proofs.lanes.bits.bits_between.Goals as goal

pub returns-then-first-past : goal.returns-then-first-past
returns-then-first-past c = λ p.
    let same : 2 ^ c.args.first ≡ 2 ^ c.args.past = ap (λ n. 2 ^ n) c.if-first-past.true in
    let none : 0 ≡ 2 ^ c.args.past - 2 ^ c.args.first = omega (arith, same) in
    ap (λ word. has_bit word p) none ∙ has_bit_mask c.args.first c.args.past p c.requires.in_order

pub returns : goal.returns
returns c = λ p.
    ap (λ mask. has_bit (mask * 2 ^ c.args.first % 2 ^ 128) p) c.bits_below.ensures
    ∙ ap (λ word. has_bit word p) (moved_mask c.args.first c.args.past c.requires.in_order c.requires.within)
    ∙ has_bit_mask c.args.first c.args.past p c.requires.in_order
