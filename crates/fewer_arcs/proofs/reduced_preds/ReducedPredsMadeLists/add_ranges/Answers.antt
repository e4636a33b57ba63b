use Rattle.std.proofs.Common.{[], List, ℕ, length, get_or, ap, sym, ◌∙◌, arith}
use Rattle.fewer_arcs.proofs.Same.{reduced_at}
use Rattle.fewer_arcs.proofs.ReducedLists.{reduced_is_no_longer}
use Rattle.fewer_arcs.proofs.reduced_preds.ReducedPredsMadeLists.add_ranges.Goals as goal

-- a reduced list is no longer than the list
pub returns-clause-countable : goal.returns-clause-countable
returns-clause-countable c =
    let lists = c.self.inside.preds in
    let id = c.args.id in
    let same = ap (λ (all : List (List ℕ)). length (get_or all id [])) (sym c.self.view_is) ∙ ap length (reduced_at lists id) in
    omega (arith, same, reduced_is_no_longer lists (get_or lists id []), c.add_retained.ensures.countable)
