use Rattle.std.proofs.Common.{rules, ◌≡◌, ◌∷◌, ap, subst, sym}
use Rattle.std.proofs.lemmas.List.Elements.{All-head, All-rest, All-same}
use Rattle.std.specs.Vec.Iter.{into_iter_items}
use Rattle.run_threads.specs.inner.Started.{valuers_in}
use Rattle.run_threads.proofs.in_scope.giving_up.join_each.Goals as goal

pub join-requires-clause-lane : goal.join-requires-clause-lane
join-requires-clause-lane g c =
    let all = into_iter_items c.loop-handle.handle-iterator in
    let following = into_iter_items c.next.new.self in
    let rest : all ≡ c.in-Some.handle ∷ following = search rules in
    All-head (λ h. g.P.RunPromise.lane h.promise ≡ g.P.After.OfLane.lane_of c.args.following.now) c.in-Some.handle following
    (All-same (λ h. g.P.RunPromise.lane h.promise ≡ g.P.After.OfLane.lane_of c.args.following.now) (c.in-Some.handle ∷ following) all (sym rest)
    c.loop-handle.invariant.lane)

pub join-requires-clause-ends : goal.join-requires-clause-ends
join-requires-clause-ends g c =
    subst (λ valuers. g.P.After.OfLane.ends c.args.following.now valuers) (sym (ap (λ starts. valuers_in starts) c.loop-handle.invariant.counted)) c.requires.ends

pub loop-handle-preserved : goal.loop-handle-preserved
loop-handle-preserved g c =
    let all = into_iter_items c.loop-handle.handle-iterator in
    let following = into_iter_items c.next.new.self in
    let rest : all ≡ c.in-Some.handle ∷ following = search rules in
    record {
      counted = search rules;
      lane = All-rest (λ h. g.P.RunPromise.lane h.promise ≡ g.P.After.OfLane.lane_of c.args.following.now) c.in-Some.handle following all rest
          c.loop-handle.invariant.lane;
    }
