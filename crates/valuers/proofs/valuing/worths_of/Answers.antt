use Rattle.std.proofs.Common.{rules, arith}
use Rattle.std.proofs.lemmas.Grind.{common_steps}
use Rattle.plan_parts.specs.formulas.WorthRange.{IsWorth}
use Rattle.valuers.proofs.Answered.{all_next, answered_next}
use Rattle.valuers.proofs.valuing.worths_of.Goals as goal

pub loop-place-preserved : goal.loop-place-preserved
loop-place-preserved g c = (grind (arith, common_steps), search (rules), all_next IsWorth c.loop-place.place c.loop-place.cells _ (search rules) (search rules) c.loop-place.invariant.2, search (rules, answered_next))
