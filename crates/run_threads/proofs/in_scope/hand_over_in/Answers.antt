use Rattle.std.proofs.Common.{refl, rules, ◌≡◌, ◌∙◌, map, subst, sym}
use Rattle.lane.specs.Ends.{PutEndView, TakeEndView}
use Rattle.run_threads.specs.HandingOver.{IsHandedOver}
use Rattle.run_threads.proofs.Joined.{all_made, first_unsent}
use Rattle.run_threads.proofs.in_scope.hand_over_in.Goals as goal

pub start_readers-readers-requires-clause-unsent :
    goal.start_readers-readers-requires-clause-unsent
start_readers-readers-requires-clause-unsent g c κs within =
    let lane = c.args.ready.lane in
    record {
      files = search rules;
      few = search rules;
      unsent = rw lane.puts_are (first_unsent lane.closer.lane 0 lane.closer.files);
    }

pub give_up-requires-clause-takes : goal.give_up-requires-clause-takes
give_up-requires-clause-takes g c =
    let lane = c.args.ready.lane in
    c.start_valuers-valuers.ensures.started.lanes lane.closer.lane (rw lane.takes_are (all_made (λ (e : TakeEndView). e.lane ≡ lane.closer.lane) _ (λ _. refl) 0 lane.closer.takers))

pub give_up-requires-then-readers-clause-puts :
    goal.give_up-requires-then-readers-clause-puts
give_up-requires-then-readers-clause-puts g c =
    let lane = c.args.ready.lane in
    c.start_readers-readers.ensures.started.lanes lane.closer.lane (rw lane.puts_are (all_made (λ (e : PutEndView). e.lane ≡ lane.closer.lane) _ (λ _. refl) 0 lane.closer.files))

pub give_up-requires-then-readers-clause-takes :
    goal.give_up-requires-then-readers-clause-takes
give_up-requires-then-readers-clause-takes g c =
    let lane = c.args.ready.lane in
    c.start_valuers-valuers.ensures.started.lanes lane.closer.lane (rw lane.takes_are (all_made (λ (e : TakeEndView). e.lane ≡ lane.closer.lane) _ (λ _. refl) 0 lane.closer.takers))

pub returns-clause-handed : goal.returns-clause-handed
returns-clause-handed g c =
    let handles = c.start_readers-readers.result.handles.items in
    let feeds = c.args.ready.feeds.items in
    let fed : map (λ h. h.promise.feed.value) handles ≡ feeds = c.start_readers-readers.ensures.feeds (search rules) in
    let takers = c.args.ready.lane.closer.takers in
    let most = c.args.ready.lane.closer.lane.2 in
    let handed = c.settle-handed.result in
    let plan = c.args.ready.shared.plan.now in
    let given = map (λ h. h.promise.feed.value) handles in
    let of_plan = subst (λ p. IsHandedOver g.F.Feed.state p given takers most handed given) c.of.ensures c.settle-handed.ensures.handed in
    let own = subst (λ fs. IsHandedOver g.F.Feed.state plan fs takers most handed fs) fed of_plan in
    subst (λ fs. IsHandedOver g.F.Feed.state plan feeds takers most handed fs) (sym (c.of-given.ensures ∙ fed)) own
