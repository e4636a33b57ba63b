use Rattle.std.proofs.Common.{rules, ◌++◌, [], ◌∷◌, ◌≡◌, drop, length}
use Rattle.plan_parts.specs.Destinations.{formulas_of}
use Rattle.valuers.specs.Valuing.{items_by, AreAnswered, OfRow}
use Rattle.valuers.proofs.Taking.{took_more, prefix_stays, items_more, all_where_pushed, prefix_where_pushed, all_stay}
use Rattle.valuers.proofs.valuer.take_all.Goals as goal

pub loop-preserved-then-not-memory : goal.loop-preserved-then-not-memory
loop-preserved-then-not-memory g c =
    let was = c.loop.invariant in
    let now = c.take-message.ensures.took in
    let all = items_by (formulas_of c.args.destinations.now) (drop (length c.args.take_end.took) c.take-message.new.self.took) in
    let is : all ≡ g.K.Keeps.held c.loop.items ++ items_by (formulas_of c.args.destinations.now) (c.take-message.result ∷ []) =
    rw (now, was.items (search rules))
    (items_more (formulas_of c.args.destinations.now) c.args.take_end.took c.loop.take_end.took c.take-message.result was.took) in
    record {
      lane = rw now was.lane;
      taker = rw now was.taker;
      took = rw now (took_more c.args.take_end.took c.loop.take_end.took c.take-message.result was.took);
      items = λ fine. all_where_pushed (g.K.Keeps.held c.loop.items) (g.K.Keeps.held c.push_item.new.items)
          (items_by (formulas_of c.args.destinations.now) (c.take-message.result ∷ [])) all is c.push_item.result c.push_item.ensures.pushed
          (rw c.is_err-memory.ensures.value at fine);
      prefix = prefix_where_pushed (g.K.Keeps.held c.loop.items) (g.K.Keeps.held c.push_item.new.items)
          (items_by (formulas_of c.args.destinations.now) (c.take-message.result ∷ [])) all is
          c.push_item.result c.push_item.ensures.pushed c.push_item.ensures.kept;
      width = c.push_item.ensures.width;
      full = search rules;
      passed = all_stay (OfRow (λ row. g.G.Gate.passed_row c.args.gate.now c.args.valuer row.file row.place)) _ _ _
          c.push_item.result c.push_item.ensures.pushed c.push_item.ensures.kept c.push_item.ensures.passed was.passed;
      asked = all_stay (OfRow (λ row. AreAnswered (λ v b r. (goal.Fn-dyn g).post (v.vtable, v.value) (b, record {}) r)
          c.args.destinations.now row.block row.worths)) _ _ _
          c.push_item.result c.push_item.ensures.pushed c.push_item.ensures.kept c.push_item.ensures.asked was.asked;
    }

pub loop-preserved : goal.loop-preserved
loop-preserved g c =
    let was = c.loop.invariant in
    let now = c.take-message.ensures.took in
    record {
      lane = rw now was.lane;
      taker = rw now was.taker;
      took = rw now (took_more c.args.take_end.took c.loop.take_end.took c.take-message.result was.took);
      items = search rules;
      prefix = rw now (prefix_stays (formulas_of c.args.destinations.now) c.args.take_end.took c.loop.take_end.took
          c.take-message.result was.took (g.K.Keeps.held c.loop.items) was.prefix);
      width = was.width;
      full = was.full;
      passed = was.passed;
      asked = was.asked;
    }
