use Rattle.std.proofs.lemmas.Result.{err_from_is_err_and}
use Rattle.run_threads.proofs.Sending.{puts_row, puts_all, stops}
use Rattle.run_threads.proofs.file_reading.put_blocks.Goals as goal

pub returns-in_err-block-clause-put : goal.returns-in_err-block-clause-put
returns-in_err-block-clause-put g c =
    let p = err_from_is_err_and c.from_residual.result c.from_residual.ensures.1 in
    rw (p.1, p.2)
    (stops _ _ _ _ _ c.next.new.self c.in_err-block.field-0.0 c.loop-reader.invariant.2 c.in_err-block.ensures.answers)

pub loop-reader-preserved : goal.loop-reader-preserved
loop-reader-preserved g c =
    let next = rw c.in-Some.is at c.in_ok-block.ensures.answers in (
      rw c.row.ensures.sent c.loop-reader.invariant.0,
      rw c.row.ensures.sent c.loop-reader.invariant.1,
      rw (c.row.ensures.sent, c.loop-reader.invariant.1)
          (puts_row _ _ _ _ _ c.next.new.self c.in-Some.block c.loop-reader.invariant.2 next),
    )

pub returns-clause-put : goal.returns-clause-put
returns-clause-put g c =
    let last = rw c.in_default.is at c.in_ok-block.ensures.answers in
    puts_all _ _ _ _ _ c.next.new.self c.loop-reader.invariant.2 last
