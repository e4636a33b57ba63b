use Rattle.std.proofs.Common.{◌≡◌, ◌+◌, ◌≤◌, length, vec_len, All}
use Rattle.std.specs.Prelude.{vec_capacity}
use Rattle.std.specs.Vec.Iter.{into_iter_items, into_iter_len}
use Rattle.run_threads.specs.inner.Promises.{IsPartly}
use Rattle.run_threads.specs.inner.Started.{after_joins}
use Rattle.run_threads.proofs.in_scope.joining.join_all.Given as goal

abbrev pub invariant-loop-handle : goal.invariant-loop-handle
invariant-loop-handle g l =
    record {
      kept : IsPartly (λ h r. g.P.Promise.kept_by h.promise r) l.fn.handles.items l.results.items (into_iter_items l.handle-iterator);
      remaining : into_iter_len l.handle-iterator ≡ length (into_iter_items l.handle-iterator);
      count : vec_len l.results + into_iter_len l.handle-iterator ≡ vec_len l.fn.handles;
      room : vec_len l.fn.handles ≤ vec_capacity l.results;
      lane : All (λ h. g.P.RunPromise.lane h.promise ≡ g.P.After.OfLane.lane_of l.following) (into_iter_items l.handle-iterator);
      counted : l.starter ≡ after_joins (vec_len l.results) l.fn.starter;
    }
