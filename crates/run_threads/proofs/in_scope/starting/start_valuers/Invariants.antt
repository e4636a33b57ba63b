use Rattle.std.proofs.Common.{◌≡◌, ◌+◌, ◌≤◌, ◌++◌, length, map, vec_len, All}
use Rattle.std.specs.Prelude.{vec_capacity, false}
use Rattle.std.specs.Vec.Iter.{into_iter_items, into_iter_len}
use Rattle.run_threads.specs.inner.Started.{after_starts}
use Rattle.run_threads.proofs.in_scope.starting.start_valuers.Given as goal

abbrev pub invariant-loop-take : goal.invariant-loop-take
invariant-loop-take g l =
    record {
      ends : map (λ h. h.promise.end.value) l.handles.items ++ into_iter_items l.take-iterator ≡ l.fn.takes.items;
      plans : All (λ h. h.promise.plan.value ≡ l.shared.plan.now) l.handles.items;
      count : l.valuer ≡ vec_len l.handles;
      rest : vec_len l.handles + into_iter_len l.take-iterator ≡ vec_len l.fn.takes;
      room : vec_len l.fn.takes ≤ vec_capacity l.handles;
      following : into_iter_len l.take-iterator ≡ length (into_iter_items l.take-iterator);
      counted : l.starter ≡ after_starts (vec_len l.handles) false l.fn.starter;
    }
