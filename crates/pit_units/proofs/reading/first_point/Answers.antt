use Rattle.std.proofs.Common.{arith}
use Rattle.pit_units.proofs.Digits.{first_place}
use Rattle.pit_units.proofs.reading.first_point.Goals as goal

pub returns-then-c-eq46-clause-value : goal.returns-then-c-eq46-clause-value
returns-then-c-eq46-clause-value c = first_place _ _ _ (omega arith) c.loop-place.invariant (λ _. c.if-c-eq46.true)

pub returns-clause-value : goal.returns-clause-value
returns-clause-value c = first_place _ _ _ (omega arith) (λ k h. c.loop-place.invariant k (omega arith)) (λ h. absurd (omega arith))
