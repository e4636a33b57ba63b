use Rattle.std.proofs.Common.{◌≡◌, ◌+◌, ◌≤◌, ◌++◌, length, map, vec_len, All}
use Rattle.std.specs.Prelude.{vec_capacity, false}
use Rattle.std.specs.Vec.Iter.{into_iter_items, into_iter_len}
use Rattle.run_threads.specs.inner.Promises.{AreUnsentFrom}
use Rattle.run_threads.specs.inner.Started.{after_readers}
use Rattle.run_threads.proofs.in_scope.starting.start_readers.Given as goal

abbrev pub invariant-loop-end : goal.invariant-loop-end
invariant-loop-end g l =
    record {
      ends : map (λ h. h.promise.end.value) l.handles.items ++ into_iter_items l.end-iterator ≡ l.fn.ends.items;
      feeds : map (λ h. h.promise.feed.value) l.handles.items ++ into_iter_items l.rest ≡ l.fn.feeds.items;
      plans : All (λ h. h.promise.plan.value ≡ l.shared.plan.now) l.handles.items;
      count : l.file ≡ vec_len l.handles;
      remaining : vec_len l.handles + into_iter_len l.end-iterator ≡ vec_len l.fn.ends;
      fed : into_iter_len l.rest ≡ into_iter_len l.end-iterator;
      room : vec_len l.fn.ends ≤ vec_capacity l.handles;
      unsent : AreUnsentFrom (vec_len l.handles) (into_iter_items l.end-iterator);
      following : into_iter_len l.end-iterator ≡ length (into_iter_items l.end-iterator);
      counted : l.starter ≡ after_readers (vec_len l.handles) false l.fn.starter;
    }
