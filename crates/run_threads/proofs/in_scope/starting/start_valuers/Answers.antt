use Rattle.std.proofs.Common.{rules, ◌≡◌, ◌∙◌, ◌∷◌, ◌++◌, [], append-nil, map, sym}
use Rattle.std.proofs.lemmas.List.{nil_from_length}
use Rattle.std.proofs.lemmas.List.Elements.{All-push}
use Rattle.std.specs.Vec.Iter.{into_iter_items, into_iter_len}
use Rattle.lane.specs.Ends.{TakeEndView}
use Rattle.run_threads.proofs.Joined.{map_step, of_given}
use Rattle.run_threads.proofs.in_scope.starting.start_valuers.Goals as goal

pub returns-in_default-clause-started : goal.returns-in_default-clause-started
returns-in_default-clause-started g c =
    record {
      ends = search rules;
      lanes = λ lane same. of_given (λ (e : TakeEndView). e.lane ≡ lane) (λ h. h.promise.end.value) c.loop-take.handles.items
          (into_iter_items c.loop-take.take-iterator) c.args.takes.items c.loop-take.invariant.ends same;
      plans = c.loop-take.invariant.plans;
      count = search rules;
      short = search rules;
      whole = search rules;
    }

pub loop-take-preserved : goal.loop-take-preserved
loop-take-preserved g c =
    let was = c.loop-take.invariant in
    let kept = c.in-Some-start_valuer.ensures.promise in
    let grown : c.push.new.self.items ≡ c.loop-take.handles.items ++ c.in-Some-start_valuer.handle ∷ [] = search rules in
    let ends : into_iter_items c.loop-take.take-iterator ≡ c.in-Some.take ∷ into_iter_items c.next.new.self = search rules in
    record {
      ends = rw grown (map_step (λ h. h.promise.end.value) c.loop-take.handles.items c.in-Some-start_valuer.handle c.in-Some.take
          (into_iter_items c.loop-take.take-iterator) (into_iter_items c.next.new.self) c.args.takes.items ends kept.1 was.ends);
      plans = rw grown (All-push (λ h. h.promise.plan.value ≡ c.args.shared.now.plan.now) c.loop-take.handles.items
          c.in-Some-start_valuer.handle was.plans kept.0);
      count = search rules;
      rest = search rules;
      room = search rules;
      following = search rules;
      counted = search rules;
    }

pub returns-clause-started : goal.returns-clause-started
returns-clause-started g c =
    let ends = map (λ h. h.promise.end.value) c.loop-take.handles.items in
    let none : into_iter_len c.loop-take.take-iterator ≡ 0 = search rules in
    let over = nil_from_length (into_iter_items c.loop-take.take-iterator) (sym c.loop-take.invariant.following ∙ none) in
    record {
      ends = λ _. sym (append-nil ends) ∙ (rw over at c.loop-take.invariant.ends);
      lanes = λ lane same. of_given (λ (e : TakeEndView). e.lane ≡ lane) (λ h. h.promise.end.value) c.loop-take.handles.items
          (into_iter_items c.loop-take.take-iterator) c.args.takes.items c.loop-take.invariant.ends same;
      plans = c.loop-take.invariant.plans;
      count = search rules;
      short = search rules;
      whole = λ _. search rules;
    }
