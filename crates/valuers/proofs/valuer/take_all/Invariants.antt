use Rattle.std.proofs.Common.{◌≡◌, ◌++◌, take, drop, length}
use Rattle.std.specs.Prelude.{IsFalse, IsTrue}
use Rattle.plan_parts.specs.Destinations.{formulas_of}
use Rattle.valuers.specs.Valuing.{items_by, WereCalled, WerePassed}
use Rattle.valuers.proofs.valuer.take_all.Given as goal

abbrev pub invariant-loop : goal.invariant-loop
invariant-loop g l =
    record {
      lane : l.take_end.lane ≡ l.fn.take_end.lane;
      taker : l.take_end.taker ≡ l.fn.take_end.taker;
      took : l.take_end.took ≡ l.fn.take_end.took ++ drop (length l.fn.take_end.took) l.take_end.took;
      items : IsFalse l.memory → g.K.Keeps.held l.items ≡ items_by (formulas_of l.destinations) (drop (length l.fn.take_end.took) l.take_end.took);
      prefix : g.K.Keeps.held l.items ≡ take (length (g.K.Keeps.held l.items))
          (items_by (formulas_of l.destinations) (drop (length l.fn.take_end.took) l.take_end.took));
      width : g.K.Keeps.is_for l.items (length l.destinations);
      full : IsTrue l.memory → g.K.Keeps.is_full l.items (length l.destinations);
      passed : WerePassed (g.G.Gate.passed_row l.gate l.valuer) (g.K.Keeps.held l.items);
      asked : WereCalled (λ v b r. (goal.Fn-dyn g).post (v.vtable, v.value) (b, record {}) r) l.destinations (g.K.Keeps.held l.items);
    }
