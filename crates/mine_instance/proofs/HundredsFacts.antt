-- Values are worths in hundreds of cents.
use Rattle.std.proofs.Common.{ℤ, List, [], ◌∷◌, map, arith}
use Rattle.std.specs.List.{AllZip}
use Rattle.std.proofs.lemmas.Int.{ints}
use Rattle.plan_parts.specs.Plan.{PlanParts}
use Rattle.plan_parts.specs.PlanFormulas.{formulas_of_plan}
use Rattle.plan_parts.specs.declared.block.Block.{Block}
use Rattle.rows.specs.Valued.{worths_by}
use Rattle.mine_instance.specs.Hundreds.{IsWorthCents}
use Rattle.mine_instance.specs.OfModel.{in_hundreds, values_of}

worth_cents : (cents : ℤ) → IsWorthCents cents (in_hundreds cents)
worth_cents cents = omega (arith, ints)

all_worth : (worths : List ℤ) → AllZip IsWorthCents worths (map in_hundreds worths)
all_worth [] = tt
all_worth (w ∷ ws) = (worth_cents w, all_worth ws)

pub values_are_worth : (plan : PlanParts) (b : Block) → AllZip IsWorthCents (worths_by (formulas_of_plan plan) b) (values_of plan b)
values_are_worth plan b = all_worth (worths_by (formulas_of_plan plan) b)
