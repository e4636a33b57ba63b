use Rattle.std.proofs.lemmas.Result.{err_from_is_err_and}
use Rattle.minelib_reading.proofs.counts.FedAnswers.{model_lacking}
use Rattle.minelib_reading.proofs.fed_counts.count_model.Goals as goal

pub returns-in_err-model-clause-counts : goal.returns-in_err-model-clause-counts
returns-in_err-model-clause-counts g c =
    let read = rw c.new-draft.ensures at c.in_ok-end.ensures.read in
    let exit = err_from_is_err_and c.from_residual-in_err-model.result c.from_residual-in_err-model.ensures.1 in
    rw (exit.1, exit.2)
    (model_lacking c.args.problem c.args.blocks c.args.limit (g.F.Feed.state c.args.feed.now) _ c.in_ok-end.end c.read_fed.new.state
    c.in_err-model.field-0.0 read c.in_err-model.ensures)
