use Rattle.std.proofs.Common.{◌≡◌, ◌+◌, ◌≤◌, ◌++◌, map, vec_len}
use Rattle.std.specs.Prelude.{vec_capacity, ◌||◌}
use Rattle.std.specs.List.{list_any}
use Rattle.std.specs.Vec.Iter.{into_iter_items, into_iter_len}
use Rattle.run_threads.proofs.in_scope.joining.split_values.Given as goal

abbrev pub invariant-loop-value : goal.invariant-loop-value
invariant-loop-value l =
    record {
      takers : l.takers.items ++ map (λ v. v.taker) (into_iter_items l.value-iterator) ≡ map (λ v. v.taker) l.fn.values.items;
      items : l.items.items ++ map (λ v. v.items) (into_iter_items l.value-iterator) ≡ map (λ v. v.items) l.fn.values.items;
      memory : (l.refused || list_any (λ v. v.memory) (into_iter_items l.value-iterator)) ≡ list_any (λ v. v.memory) l.fn.values.items;
      count : vec_len l.takers + into_iter_len l.value-iterator ≡ vec_len l.fn.values;
      passed_on : vec_len l.items ≡ vec_len l.takers;
      room : vec_len l.fn.values ≤ vec_capacity l.takers;
      room_for_items : vec_len l.fn.values ≤ vec_capacity l.items;
    }
