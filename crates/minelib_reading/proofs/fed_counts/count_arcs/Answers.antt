use Rattle.std.proofs.lemmas.Result.{err_from_is_err_and}
use Rattle.minelib_reading.specs.inner.CountedItems.{lists_in}
use Rattle.minelib_reading.proofs.counts.FedAnswers.{arcs_lacking, arcs_reported}
use Rattle.minelib_reading.proofs.fed_counts.count_arcs.Goals as goal

pub returns-clause-counts : goal.returns-clause-counts
returns-clause-counts g c =
    let read = rw c.new-draft.ensures at c.in_ok-end.ensures.read in
    rw c.arcs.ensures (arcs_reported c.args.blocks c.args.limit (g.F.Feed.state c.args.feed.now) _ c.in_ok-end.end c.read_fed.new.state (lists_in c.in_ok-finish.field-0.past) read
    c.in_ok-finish.ensures)

pub returns-in_err-finish-clause-counts : goal.returns-in_err-finish-clause-counts
returns-in_err-finish-clause-counts g c =
    let read = rw c.new-draft.ensures at c.in_ok-end.ensures.read in
    let exit = err_from_is_err_and c.from_residual-in_err-finish.result c.from_residual-in_err-finish.ensures.1 in
    rw (exit.1, exit.2)
    (arcs_lacking c.args.blocks c.args.limit (g.F.Feed.state c.args.feed.now) _ c.in_ok-end.end c.read_fed.new.state c.in_err-finish.field-0.0 read
    c.in_err-finish.ensures)
