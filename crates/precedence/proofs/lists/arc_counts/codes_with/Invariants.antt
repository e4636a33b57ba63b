use Rattle.std.proofs.Common.{◌≡◌, ◌++◌, ◌<◌, ◌≤◌, All, length, drop}
use Rattle.precedence.specs.inner.Arcs.{codes_with}
use Rattle.precedence.specs.declared.places.code.TheConstants.{CODES}
use Rattle.precedence.proofs.lists.arc_counts.codes_with.Given as goal

abbrev pub invariant-loop-k : goal.invariant-loop-k
invariant-loop-k l = record {
  own : l.own.items ++ codes_with l.of_zone l.number (drop l.k l.zones) (drop l.k l.places.codes.items)
      ≡ codes_with l.of_zone l.number l.zones l.places.codes.items;
  small : All (λ c. c < CODES) l.own.items;
  few : length l.own.items ≤ l.k;
}
