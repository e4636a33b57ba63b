use Rattle.std.proofs.Common.{ℕ, ◌-◌, ◌<◌, ◌≤◌, length, get_or}
use Rattle.precedence.specs.inner.Outside.{IsOutside}
use Rattle.precedence.proofs.lists.outside.pass_outside.Given as goal

abbrev pub invariant-loop-codes : goal.invariant-loop-codes
invariant-loop-codes l = record {
  later : l.id ≤ l.next;
  within : l.next ≤ length l.places.codes.items;
  outside : (m : ℕ) → l.id ≤ m → m < l.next → IsOutside l.sides.west l.sides.east (get_or l.places.codes.items m 0);
}

abbrev pub decreases-loop-codes : goal.decreases-loop-codes
decreases-loop-codes l = length l.places.codes.items - l.next
