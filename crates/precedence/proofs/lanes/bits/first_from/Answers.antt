use Rattle.std.proofs.Common.{arith}
use Rattle.precedence.proofs.bits.Words.{first_bit, no_bits}
use Rattle.precedence.proofs.lanes.bits.first_from.Goals.{then-at-eq64-via-then-at-eq64, then-at-eq64-via-else-at-eq64+then-bits-at-eq0}
use Rattle.precedence.proofs.lanes.bits.first_from.Goals as goal

pub returns-then-at-eq64-clause-none : goal.returns-then-at-eq64-clause-none
returns-then-at-eq64-clause-none c = λ p from before. elim c.then-at-eq64.branch [
  | then-at-eq64-via-then-at-eq64 w ↦ absurd (omega (arith, from, before, w.if-at-eq64))
  | then-at-eq64-via-else-at-eq64+then-bits-at-eq0 w ↦ no_bits c.args.bits c.args.at p w.if-bits-at-eq0.true from
]

pub returns-clause-none : goal.returns-clause-none
returns-clause-none c = (first_bit c.args.bits c.args.at (omega arith) c.if-bits-at-eq0.false).1

pub returns-clause-some : goal.returns-clause-some
returns-clause-some c = λ _. (first_bit c.args.bits c.args.at (omega arith) c.if-bits-at-eq0.false).0
