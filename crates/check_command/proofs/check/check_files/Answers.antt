use Rattle.check_command.proofs.check.check_files.Goals as goal

pub returns-clause-ends : goal.returns-clause-ends
returns-clause-ends g c =
    let ends = c.check.ensures.ends in record {
      done = λ zero. (_, rw c.new.ensures at (ends.done zero));
      quiet = ends.quiet;
      kept = ends.kept;
      refused = λ some. let reported = ends.refused some in (reported.0, (_, rw c.new.ensures at reported.1), reported.2);
    }
