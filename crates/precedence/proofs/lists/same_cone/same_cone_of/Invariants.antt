use Rattle.std.proofs.Common.{◌≡◌, ℕ, ◌<◌, ◌≤◌, length, get_or}
use Rattle.precedence.specs.inner.SameCone.{HaveSameConeFrom}
use Rattle.precedence.proofs.lists.same_cone.same_cone_of.Given as goal

-- The blocks from `id` on have their numbers, and `after` is the first one's number.
abbrev pub invariant-loop-id : goal.invariant-loop-id
invariant-loop-id l = record {
  inside : l.id ≤ length l.codes;
  each : length l.same_cone.items ≡ length l.codes;
  after : HaveSameConeFrom l.codes l.of_zone l.zones l.id l.after;
  follow : (k : ℕ) → l.id ≤ k → k < length l.codes → HaveSameConeFrom l.codes l.of_zone l.zones k (get_or l.same_cone.items k 0);
}

abbrev pub decreases-loop-id : goal.decreases-loop-id
decreases-loop-id l = l.id
