use Rattle.std.proofs.Common.{Err, Ok}
use Rattle.std.proofs.lemmas.Result.{err_from_is_err_and}
use Rattle.devices.specs.declared.feeds.slurp.TheConstants.{LARGEST_LIMIT}
use Rattle.check_command.proofs.CountedAll.{arcs_reported, blocks_reported, cpit_reported, model_reported}
use Rattle.check_command.proofs.counting.count_in.Goals as goal

pub returns-in_ok-blocks-in-Blocks-clause-counts : goal.returns-in_ok-blocks-in-Blocks-clause-counts
returns-in_ok-blocks-in-Blocks-clause-counts g c =
    rw c.in-Blocks.is
    (blocks_reported LARGEST_LIMIT (g.F.Feed.state c.args.feed.now) _ c.args.counts (Ok c.in_ok-blocks-in-Blocks.blocks) c.in_ok-blocks-in-Blocks.ensures.counts)

pub returns-in_err-blocks-in-Blocks-clause-counts : goal.returns-in_err-blocks-in-Blocks-clause-counts
returns-in_err-blocks-in-Blocks-clause-counts g c =
    let exit = err_from_is_err_and c.from_residual.result c.from_residual.ensures.1 in
    rw (exit.1, exit.2, c.in-Blocks.is)
    (blocks_reported LARGEST_LIMIT (g.F.Feed.state c.args.feed.now) _ c.args.counts (Err c.in_err-blocks-in-Blocks.field-0.0) c.in_err-blocks-in-Blocks.ensures.counts)

pub returns-in_ok-arcs-in-Prec-clause-counts : goal.returns-in_ok-arcs-in-Prec-clause-counts
returns-in_ok-arcs-in-Prec-clause-counts g c =
    rw c.in-Prec.is
    (arcs_reported LARGEST_LIMIT (g.F.Feed.state c.args.feed.now) _ c.args.counts (Ok c.in_ok-arcs-in-Prec.arcs) c.in_ok-arcs-in-Prec.ensures.counts)

pub returns-in_err-arcs-in-Prec-clause-counts : goal.returns-in_err-arcs-in-Prec-clause-counts
returns-in_err-arcs-in-Prec-clause-counts g c =
    let exit = err_from_is_err_and c.from_residual-in_err-arcs-in-Prec.result c.from_residual-in_err-arcs-in-Prec.ensures.1 in
    rw (exit.1, exit.2, c.in-Prec.is)
    (arcs_reported LARGEST_LIMIT (g.F.Feed.state c.args.feed.now) _ c.args.counts (Err c.in_err-arcs-in-Prec.field-0.0) c.in_err-arcs-in-Prec.ensures.counts)

pub returns-in_ok-coefs-in-Pcpsp-clause-counts : goal.returns-in_ok-coefs-in-Pcpsp-clause-counts
returns-in_ok-coefs-in-Pcpsp-clause-counts g c =
    rw c.in-Pcpsp.is
    (model_reported LARGEST_LIMIT (g.F.Feed.state c.args.feed.now) _ c.args.counts (Ok (c.in_ok-coefs-in-Pcpsp.coefs, c.in_ok-coefs-in-Pcpsp.limits)) c.in_ok-coefs-in-Pcpsp.ensures.counts)

pub returns-in_err-coefs-in-Pcpsp-clause-counts : goal.returns-in_err-coefs-in-Pcpsp-clause-counts
returns-in_err-coefs-in-Pcpsp-clause-counts g c =
    let exit = err_from_is_err_and c.from_residual-in_err-coefs-in-Pcpsp.result c.from_residual-in_err-coefs-in-Pcpsp.ensures.1 in
    rw (exit.1, exit.2, c.in-Pcpsp.is)
    (model_reported LARGEST_LIMIT (g.F.Feed.state c.args.feed.now) _ c.args.counts (Err c.in_err-coefs-in-Pcpsp.field-0.0) c.in_err-coefs-in-Pcpsp.ensures.counts)

pub returns-in_ok-coefs-in-Cpit-clause-counts : goal.returns-in_ok-coefs-in-Cpit-clause-counts
returns-in_ok-coefs-in-Cpit-clause-counts g c =
    rw c.in-Cpit.is
    (cpit_reported LARGEST_LIMIT (g.F.Feed.state c.args.feed.now) _ c.args.counts (Ok (c.in_ok-coefs-in-Cpit.coefs, c.in_ok-coefs-in-Cpit.field-0-1)) c.in_ok-coefs-in-Cpit.ensures.counts)

pub returns-in_err-coefs-in-Cpit-clause-counts : goal.returns-in_err-coefs-in-Cpit-clause-counts
returns-in_err-coefs-in-Cpit-clause-counts g c =
    let exit = err_from_is_err_and c.from_residual-in_err-coefs-in-Cpit.result c.from_residual-in_err-coefs-in-Cpit.ensures.1 in
    rw (exit.1, exit.2, c.in-Cpit.is)
    (cpit_reported LARGEST_LIMIT (g.F.Feed.state c.args.feed.now) _ c.args.counts (Err c.in_err-coefs-in-Cpit.field-0.0) c.in_err-coefs-in-Cpit.ensures.counts)
