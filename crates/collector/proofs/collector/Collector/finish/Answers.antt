use Rattle.std.proofs.lemmas.Result.{err_from_is_err_and}
use Rattle.collector.proofs.Finished.{are_lists, is_missing}
use Rattle.collector.proofs.collector.Collector.finish.Goals as goal

pub returns-in_err-require_filled-clause-missing :
    goal.returns-in_err-require_filled-clause-missing
returns-in_err-require_filled-clause-missing c =
    let lacking = rw c.deref.ensures.value at c.in_err-require_filled.ensures.lacking in
    let p = err_from_is_err_and c.from_residual.result c.from_residual.ensures.1 in
    rw (p.1, p.2) (is_missing _ c.self.inside.items_by_file.items _ c.args.self c.self.view_is c.self.invariant lacking)

pub returns-clause-lists : goal.returns-clause-lists
returns-clause-lists c =
    let filled = rw c.deref.ensures.value at c.in_ok-require_filled.ensures.filled in
    are_lists _ c.self.inside.items_by_file.items _ c.args.self c.self.view_is c.self.invariant filled c.in_ok-rows_by_file.ensures
