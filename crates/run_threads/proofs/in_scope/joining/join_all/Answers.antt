use Rattle.std.proofs.Common.{rules, ◌≡◌, ◌∷◌, ◌++◌, [], ap, subst, sym, ◌∙◌}
use Rattle.std.proofs.lemmas.List.{nil_from_length}
use Rattle.std.proofs.lemmas.List.Elements.{All-head, All-rest, All-same}
use Rattle.std.specs.Vec.Iter.{into_iter_items, into_iter_len}
use Rattle.run_threads.specs.inner.Started.{valuers_in}
use Rattle.run_threads.proofs.Joined.{partly_more, partly_all}
use Rattle.run_threads.proofs.in_scope.joining.join_all.Goals as goal

pub join-requires-clause-lane : goal.join-requires-clause-lane
join-requires-clause-lane g c =
    let all = into_iter_items c.loop-handle.handle-iterator in
    let following = into_iter_items c.next.new.self in
    let rest : all ≡ c.in-Some.handle ∷ following = search rules in
    All-head (λ h. g.P.RunPromise.lane h.promise ≡ g.P.After.OfLane.lane_of c.args.following.now) c.in-Some.handle following
    (All-same (λ h. g.P.RunPromise.lane h.promise ≡ g.P.After.OfLane.lane_of c.args.following.now) (c.in-Some.handle ∷ following) all (sym rest)
    c.loop-handle.invariant.lane)

pub join-requires-clause-ends : goal.join-requires-clause-ends
join-requires-clause-ends g c =
    subst (λ valuers. g.P.After.OfLane.ends c.args.following.now valuers) (sym (ap (λ starts. valuers_in starts) c.loop-handle.invariant.counted)) c.requires.ends

pub loop-handle-preserved : goal.loop-handle-preserved
loop-handle-preserved g c =
    let was = c.loop-handle.invariant in
    let grown : c.push.new.self.items ≡ c.loop-handle.results.items ++ c.join.result ∷ [] = search rules in
    let rest : into_iter_items c.loop-handle.handle-iterator ≡ c.in-Some.handle ∷ into_iter_items c.next.new.self = search rules in
    record {
      kept = rw grown (partly_more (λ h r. g.P.Promise.kept_by h.promise r) c.args.handles.items c.loop-handle.results.items
          c.in-Some.handle (into_iter_items c.next.new.self) c.join.result (rw rest at was.kept) c.join.ensures.kept);
      remaining = search rules;
      count = search rules;
      room = search rules;
      lane = All-rest (λ h. g.P.RunPromise.lane h.promise ≡ g.P.After.OfLane.lane_of c.args.following.now) c.in-Some.handle (into_iter_items c.next.new.self) (into_iter_items c.loop-handle.handle-iterator) rest was.lane;
      counted = search rules;
    }

pub returns-clause-kept : goal.returns-clause-kept
returns-clause-kept g c =
    let none : into_iter_len c.loop-handle.handle-iterator ≡ 0 = search rules in
    let over = nil_from_length (into_iter_items c.loop-handle.handle-iterator) (sym c.loop-handle.invariant.remaining ∙ none) in
    partly_all (λ h r. g.P.Promise.kept_by h.promise r) c.args.handles.items c.loop-handle.results.items
    (rw over at c.loop-handle.invariant.kept)
