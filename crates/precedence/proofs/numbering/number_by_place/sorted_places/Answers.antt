use Rattle.std.proofs.Common.{ℕ, refl, rules}
use Rattle.std.specs.List.Sorted.{IsPermutation}
use Rattle.std.proofs.lemmas.List.Sorted.{IsNonDecreasingBy-from_sort_by_key}
use Rattle.precedence.specs.inner.Seen.{placed}
use Rattle.precedence.proofs.Identifiers.{keys_rise}
use Rattle.precedence.proofs.numbering.number_by_place.sorted_places.Goals as goal

pub returns-then-rise-clause-sorted : goal.returns-then-rise-clause-sorted
returns-then-rise-clause-sorted g c = record {
  permuted = rw c.in_ok-places.ensures at c.sort_by_key.ensures.permutation;
  rising = rw (← c.as_slice.ensures.value) (c.if-rise.ensures refl);
}

pub returns-clause-sorted : goal.returns-clause-sorted
returns-clause-sorted g c =
    let listed = g.L.ListedBlocks.listed c.args.listed.now in
    let places = c.sort_by_key.new.self.items in
    let permuted : IsPermutation (placed 0 listed) places = rw c.in_ok-places.ensures at c.sort_by_key.ensures.permutation in
    record {
      permuted = permuted;
      rising = keys_rise listed places permuted
          (IsNonDecreasingBy-from_sort_by_key (λ (e : ℕ × ℕ). e.0) _ c.in_ok-sort_by_key.ensures.sorted (λ a r q k. search rules))
          c.in_ok-require_distinct.ensures.differ;
    }
