use Rattle.std.proofs.Common.{◌∙◌, sym}
use Rattle.compile_command.proofs.compile.compile_files.Goals as goal

pub returns-clause-ends : goal.returns-clause-ends
returns-clause-ends g c =
    let new = c.compile_in-ended.ensures.ends.0 in
    let ends = c.compile_in-ended.ensures.ends.3 in record {
      done = λ zero. record {
        lines = c.args.err.now.items;
        new = new;
        sinks = _;
        text = c.compile_in-ended.ensures.ends.1;
        reported = rw (c.new.ensures, c.new-2.ensures, c.new-3.ensures) at (ends.done zero);
      };
      quiet = λ zero. sym c.compile_in-ended.ensures.ends.2 ∙ ends.quiet zero;
      kept = λ bad. sym c.compile_in-ended.ensures.ends.1 ∙ ends.kept bad;
      refused = λ bad.
          let reported = ends.refused bad in (
            reported.0,
            record {
              text = c.args.out.now.items;
              lines = c.args.err.now.items;
              new = new;
              sinks = _;
              why = rw (c.new.ensures, c.new-2.ensures, c.new-3.ensures) at reported.1;
            },
            rw c.compile_in-ended.ensures.ends.2 at reported.2,
          );
    }
