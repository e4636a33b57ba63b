use Rattle.std.proofs.Common.{⊎_elim}
use Rattle.std.proofs.lemmas.Bool.{cases_eq}
use Rattle.pitc.proofs.print_model.Goals as goal

pub returns-clause-ends : goal.returns-clause-ends
returns-clause-ends g c =
    let ends = c.in_ok-ended.ensures.ends in
    let model = c.in_ok-read_model.ensures.model in record {
      done = λ zero. let reported = ends.done zero in (_, _, model, reported.0, reported.2);
      quiet = ends.quiet;
      kept = ends.kept;
      refused = λ bad. let reported = ends.refused bad in (reported.0, (_, _, model, reported.1.0), reported.2);
    }

pub returns-clause-opened : goal.returns-clause-opened
returns-clause-opened g c = ⊎_elim (λ zero. (c.in_ok-ended.ensures.ends.done zero).1.0)
    (λ bad. (c.in_ok-ended.ensures.ends.refused bad).1.1.0) (cases_eq c.in_ok-ended.ended.status 0)

pub returns-clause-made : goal.returns-clause-made
returns-clause-made g c = ⊎_elim (λ zero. (c.in_ok-ended.ensures.ends.done zero).1.1)
    (λ bad. (c.in_ok-ended.ensures.ends.refused bad).1.1.1) (cases_eq c.in_ok-ended.ended.status 0)
