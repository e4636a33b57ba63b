use Rattle.std.proofs.Common.{arith, rules, ◌≡◌, ◌∙◌, All, [], append-nil, map, true, refl, sym, ap, subst}
use Rattle.lane.specs.Ends.{Lane, PutEndView, TakeEndView, first_puts, first_takes}
use Rattle.lane.specs.MessageKinds.{is_done}
use Rattle.run_threads.proofs.Joined.{puts_of, read_of, takes_of, done_of, valued_of, full_of, of_given, all_made}
use Rattle.run_threads.proofs.in_scope.settling.settle.Goals as goal

pub join_all-reads-requires-clause-lane : goal.join_all-reads-requires-clause-lane
join_all-reads-requires-clause-lane g c =
    let lane = c.args.running.closer.lane in
    let ends = map (λ h. h.promise.end.value) c.args.running.readers.items in
    of_given (λ (e : PutEndView). e.lane ≡ lane) (λ h. h.promise.end.value) c.args.running.readers.items [] (first_puts lane 0 c.args.running.closer.files)
    (append-nil ends ∙ c.args.running.ends) (all_made (λ (e : PutEndView). e.lane ≡ lane) _ (λ _. refl) 0 c.args.running.closer.files)

pub join_all-values-requires-clause-lane : goal.join_all-values-requires-clause-lane
join_all-values-requires-clause-lane g c =
    let lane = c.args.running.closer.lane in
    let ends = map (λ h. h.promise.end.value) c.args.running.valuers.items in
    let Same : Lane → Type 0 = λ other. All (λ h. h.promise.end.value.lane ≡ other) c.args.running.valuers.items in
    let ended : c.stop-stopped.result.1.lane ≡ lane = ap (λ e. e.lane) c.stop-stopped.ensures.ended in
    subst Same (sym ended)
    (of_given (λ (e : TakeEndView). e.lane ≡ lane) (λ h. h.promise.end.value) c.args.running.valuers.items [] (first_takes lane 0 c.args.running.closer.takers)
    (append-nil ends ∙ c.args.running.takes) (all_made (λ (e : TakeEndView). e.lane ≡ lane) _ (λ _. refl) 0 c.args.running.closer.takers))

pub stop-stopped-requires-clause-puts : goal.stop-stopped-requires-clause-puts
stop-stopped-requires-clause-puts g c =
    rw c.split_reads-ended.ensures.ended
    (puts_of g.F.Feed.state (λ h. h.promise.feed.value) (λ h. h.promise.plan.value) (λ h. h.promise.end.value) c.args.running.plan.value c.args.running.closer.lane c.args.running.closer.files 0 c.args.running.closer.files (omega arith) c.args.running.readers.items c.join_all-reads.result.items
    c.join_all-reads.ensures.kept c.args.running.ends)

pub gather-gathered-requires-clause-takes : goal.gather-gathered-requires-clause-takes
gather-gathered-requires-clause-takes g c =
    rw (c.stop-stopped.ensures.lane, c.stop-stopped.ensures.takers, c.split_values-takers.ensures.takers)
    (takes_of (λ h. h.promise.plan.value) (λ h. h.promise.end.value) c.args.running.plan.value c.args.running.closer.lane c.args.running.closer.takers 0
    c.args.running.closer.takers (omega arith) c.args.running.valuers.items c.join_all-values.result.items c.join_all-values.ensures.kept
    c.args.running.takes)

pub gather-gathered-requires-clause-done : goal.gather-gathered-requires-clause-done
gather-gathered-requires-clause-done g c =
    subst (λ l. All (λ (t : TakeEndView). is_done t.took ≡ true) l) (sym c.split_values-takers.ensures.takers)
    (done_of (λ h. h.promise.plan.value) (λ h. h.promise.end.value) c.args.running.plan.value c.args.running.closer.lane c.args.running.closer.takers
    c.args.running.valuers.items c.join_all-values.result.items c.join_all-values.ensures.kept)

pub returns-clause-handed : goal.returns-clause-handed
returns-clause-handed g c =
    let plan = c.args.running.plan.value in
    let lane = c.args.running.closer.lane in
    record {
      whole = search rules;
      given = refl;
      capacity = search rules;
      read = rw (
        c.split_reads-ended.ensures.answers,
        c.gather-gathered.ensures.sent,
        c.stop-stopped.ensures.sent,
        c.split_reads-ended.ensures.ended,
      )
          (read_of g.F.Feed.state (λ h. h.promise.feed.value) (λ h. h.promise.plan.value)
          (λ h. h.promise.end.value) plan lane c.args.running.closer.files 0 c.args.running.closer.files c.args.running.readers.items c.join_all-reads.result.items
          c.join_all-reads.ensures.kept c.args.running.read_plans c.args.running.ends);
      valued = λ fine.
          rw (c.split_values-takers.ensures.items, c.gather-gathered.ensures.took, c.split_values-takers.ensures.takers)
          (valued_of (λ h. h.promise.plan.value) (λ h. h.promise.end.value) plan lane c.args.running.closer.takers 0 c.args.running.closer.takers
          c.args.running.valuers.items c.join_all-values.result.items c.join_all-values.ensures.kept c.args.running.valuer_plans c.args.running.takes
          (sym c.split_values-takers.ensures.memory ∙ fine));
      full = λ refused.
          rw c.split_values-takers.ensures.items
          (full_of (λ h. h.promise.plan.value) (λ h. h.promise.end.value) plan lane c.args.running.closer.takers c.args.running.valuers.items
          c.join_all-values.result.items c.join_all-values.ensures.kept c.args.running.valuer_plans
          (sym c.split_values-takers.ensures.memory ∙ refused));
      takers = search rules;
    }
