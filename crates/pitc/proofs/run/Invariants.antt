use Rattle.std.proofs.Common.{◌≡◌, map, take}
use Rattle.compile_command.specs.Task.{plan_in}
use Rattle.plan_parts.specs.Destinations.{formulas_of}
use Rattle.pitc.proofs.run.Given as goal

-- The formulas so far have their destinations.
abbrev pub invariant-loop-named : goal.invariant-loop-named
invariant-loop-named g l = formulas_of l.destinations.items ≡ map (λ f. f.formula) (take l.named-index (plan_in l.task).formulas)
