use Rattle.compile_command.proofs.compile_at.compile_with.Goals as goal

pub returns-in-Err-clause-ends : goal.returns-in-Err-clause-ends
returns-in-Err-clause-ends g c = rw (← c.world.view_is) (record {
  done = λ zero. absurd (c.report.ensures.fails zero);
  quiet = λ zero. absurd (c.report.ensures.fails zero);
  kept = λ bad. c.in-Err.ensures.kept;
  refused = λ bad. (c.in-Err.refused, c.in-Err.ensures.refused, c.report.ensures.ends);
})
