use Rattle.std.proofs.Common.{◌≡◌, length}
use Rattle.plan_parts.specs.PlanInvariant.{has_repeat}
use Rattle.pit_model.proofs.named.has_repeat.Given as goal

abbrev pub invariant-loop-rest : goal.invariant-loop-rest
invariant-loop-rest l = has_repeat l.rest ≡ has_repeat l.fn.numbers

abbrev pub decreases-loop-rest : goal.decreases-loop-rest
decreases-loop-rest l = length l.rest
