use Rattle.std.proofs.Common.{◌≤◌, length, rules}
use Rattle.std.proofs.lemmas.Result.{err_from_is_err_and}
use Rattle.run_threads.specs.MostBytes.{most_bytes}
use Rattle.run_threads.proofs.Sending.{gives_none, text_read, text_stopped}
use Rattle.run_threads.proofs.file_reading.put_file.Goals as goal

pub returns-in_err-text-clause-read : goal.returns-in_err-text-clause-read
returns-in_err-text-clause-read g c =
    let p = err_from_is_err_and c.from_residual.result c.from_residual.ensures.1 in
    let reads = c.in_err-text.ensures.reads in
    rw (p.1, p.2)
    (gives_none g.F.Feed.state c.args.plan.now.grid c.args.file c.args.feed.now c.slurp.new.feed
    c.in_err-text.field-0.0 _ reads.refused.failed (λ sure is. reads.sure sure (cc is)) reads.refused.long)

pub returns-in_err-put_blocks-clause-read : goal.returns-in_err-put_blocks-clause-read
returns-in_err-put_blocks-clause-read g c =
    let p = err_from_is_err_and c.from_residual-in_err-put_blocks.result c.from_residual-in_err-put_blocks.ensures.1 in
    let text = c.in_ok-text.text in
    let short : length text.items ≤ most_bytes = search rules in
    rw (p.1, p.2)
    (text_stopped g.F.Feed.state c.args.plan.now.grid c.args.file c.args.feed.now text.items _ c.in_ok-text.ensures.read.whole short
    c.in_err-put_blocks.field-0.0 c.in_err-put_blocks.ensures.put)

pub returns-clause-read : goal.returns-clause-read
returns-clause-read g c =
    let text = c.in_ok-text.text in
    let short : length text.items ≤ most_bytes = search rules in
    text_read g.F.Feed.state c.args.plan.now.grid c.args.file c.args.feed.now text.items _ c.in_ok-text.ensures.read.whole short
    c.in_ok-put_blocks.ensures.put
