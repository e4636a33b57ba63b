use Rattle.std.proofs.Common.{◌≡◌, map, take}
use Rattle.plan_parts.specs.Destinations.{formulas_of}
use Rattle.pitc_thin.proofs.run.Given as goal

-- The formulas so far have their destinations.
abbrev pub invariant-loop-named : goal.invariant-loop-named
invariant-loop-named g l = formulas_of l.destinations.items ≡ map (λ f. f.formula) (take l.named-index (l.plan).formulas)
