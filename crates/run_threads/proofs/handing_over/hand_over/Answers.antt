use Rattle.std.proofs.Common.{arith, ◌≡◌, length}
use Rattle.plan_parts.specs.Destinations.{formula_of}
use Rattle.run_threads.proofs.Joined.{same_lengths}
use Rattle.run_threads.proofs.handing_over.hand_over.Goals as goal

pub invariant_of-ready-clause-some : goal.invariant_of-ready-clause-some
invariant_of-ready-clause-some g c =
    let plan = c.cones.ensures.kept.destinations in
    let many : length c.args.destinations.now ≡ length c.args.plan.now.formulas
    = same_lengths (λ d. formula_of d) (λ f. f.formula) c.args.destinations.now c.args.plan.now.formulas c.requires.destinations in
    omega (arith, plan, many)

pub invariant_of-ready-clause-few : goal.invariant_of-ready-clause-few
invariant_of-ready-clause-few g c =
    let plan = c.cones.ensures.kept.destinations in
    let many : length c.args.destinations.now ≡ length c.args.plan.now.formulas
    = same_lengths (λ d. formula_of d) (λ f. f.formula) c.args.destinations.now c.args.plan.now.formulas c.requires.destinations in
    omega (arith, plan, many)
