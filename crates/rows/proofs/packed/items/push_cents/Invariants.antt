use Rattle.std.proofs.Common.{◌≡◌, ◌≤◌, ◌++◌, take, vec_capacity}
use Rattle.rows.proofs.packed.items.push_cents.Given as goal

abbrev pub invariant-loop-worth : goal.invariant-loop-worth
invariant-loop-worth g l = (l.worths.items ≡ l.initial.worths.items ++ take l.worth-index l.cents) × (vec_capacity l.initial.worths ≤ vec_capacity l.worths)
