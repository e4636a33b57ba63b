use Rattle.std.proofs.Common.{rules, ◌≡◌, ◌∙◌, ◌+◌, ◌∷◌, ◌++◌, [], append-nil, map, subst, sym, vec_len}
use Rattle.std.proofs.lemmas.List.{nil_from_length}
use Rattle.std.proofs.lemmas.List.Elements.{All-push}
use Rattle.std.specs.Vec.Iter.{into_iter_items, into_iter_len}
use Rattle.lane.specs.Ends.{PutEndView}
use Rattle.run_threads.specs.inner.Promises.{AreUnsentFrom}
use Rattle.run_threads.proofs.Joined.{map_step, of_given, unsent_rest}
use Rattle.run_threads.proofs.in_scope.starting.start_readers.Goals as goal

pub loop-end-preserved : goal.loop-end-preserved
loop-end-preserved g c =
    let was = c.loop-end.invariant in
    let kept = c.in-Some-start_reader.ensures.promise in
    let grown : c.push.new.self.items ≡ c.loop-end.handles.items ++ c.in-Some-start_reader.handle ∷ [] = search rules in
    let ends : into_iter_items c.loop-end.end-iterator ≡ c.in-Some.end ∷ into_iter_items c.next.new.self = search rules in
    let feeds : into_iter_items c.loop-end.rest ≡ c.in-Some-next.feed ∷ into_iter_items c.next-in-loop-end.new.self = search rules in
    let more : vec_len c.loop-end.handles + 1 ≡ vec_len c.push.new.self = search rules in
    record {
      ends = rw grown (map_step (λ h. h.promise.end.value) c.loop-end.handles.items c.in-Some-start_reader.handle c.in-Some.end
          (into_iter_items c.loop-end.end-iterator) (into_iter_items c.next.new.self) c.args.ends.items ends kept.2 was.ends);
      feeds = rw grown (map_step (λ h. h.promise.feed.value) c.loop-end.handles.items c.in-Some-start_reader.handle c.in-Some-next.feed
          (into_iter_items c.loop-end.rest) (into_iter_items c.next-in-loop-end.new.self) c.args.feeds.items feeds kept.0 was.feeds);
      plans = rw grown (All-push (λ h. h.promise.plan.value ≡ c.args.shared.now.plan.now) c.loop-end.handles.items
          c.in-Some-start_reader.handle was.plans kept.1);
      count = search rules;
      remaining = search rules;
      fed = search rules;
      room = search rules;
      unsent = subst (λ n. AreUnsentFrom n (into_iter_items c.next.new.self)) more
          (unsent_rest (vec_len c.loop-end.handles) c.in-Some.end (into_iter_items c.loop-end.end-iterator)
          (into_iter_items c.next.new.self) ends was.unsent).2;
      following = search rules;
      counted = search rules;
    }

pub returns-in_default-start_reader-clause-started : goal.returns-in_default-start_reader-clause-started
returns-in_default-start_reader-clause-started g c =
    record {
      ends = search rules;
      lanes = λ lane same. of_given (λ (e : PutEndView). e.lane ≡ lane) (λ h. h.promise.end.value) c.loop-end.handles.items
          (into_iter_items c.loop-end.end-iterator) c.args.ends.items c.loop-end.invariant.ends same;
      plans = c.loop-end.invariant.plans;
      count = search rules;
      short = search rules;
      whole = search rules;
    }

pub returns-clause-started : goal.returns-clause-started
returns-clause-started g c =
    let ends = map (λ h. h.promise.end.value) c.loop-end.handles.items in
    let none : into_iter_len c.loop-end.end-iterator ≡ 0 = search rules in
    let over = nil_from_length (into_iter_items c.loop-end.end-iterator) (sym c.loop-end.invariant.following ∙ none) in
    record {
      ends = λ _. sym (append-nil ends) ∙ (rw over at c.loop-end.invariant.ends);
      lanes = λ lane same. of_given (λ (e : PutEndView). e.lane ≡ lane) (λ h. h.promise.end.value) c.loop-end.handles.items
          (into_iter_items c.loop-end.end-iterator) c.args.ends.items c.loop-end.invariant.ends same;
      plans = c.loop-end.invariant.plans;
      count = search rules;
      short = search rules;
      whole = λ _. search rules;
    }
