use Rattle.std.proofs.Common.{◌≡◌, take, map}
use Rattle.plan_parts.specs.Destinations.{formulas_of}
use Rattle.pit_compile.proofs.settings.are_same.Given as goal

abbrev pub invariant-loop-i : goal.invariant-loop-i
invariant-loop-i g l = formulas_of (take l.i l.destinations) ≡ map (λ f. f.formula) (take l.i l.formulas)
