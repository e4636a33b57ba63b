use Rattle.std.proofs.Common.{◌≡◌, vec_len, All}
use Rattle.std.specs.Vec.Iter.{into_iter_items, into_iter_len}
use Rattle.run_threads.specs.inner.Started.{after_joins}
use Rattle.run_threads.proofs.in_scope.giving_up.join_each.Given as goal

abbrev pub invariant-loop-handle : goal.invariant-loop-handle
invariant-loop-handle g l =
    record {
      counted : after_joins (into_iter_len l.handle-iterator) l.starter ≡ after_joins (vec_len l.fn.handles) l.fn.starter;
      lane : All (λ h. g.P.RunPromise.lane h.promise ≡ g.P.After.OfLane.lane_of l.following) (into_iter_items l.handle-iterator);
    }
