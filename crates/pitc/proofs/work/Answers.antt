use Rattle.pitc.proofs.work.Goals as goal

pub returns-clause-done : goal.returns-clause-done
returns-clause-done g c = rw c.in_ok-arguments.was (λ many. rw c.as_slice.ensures.value at c.perform.ensures.done)
