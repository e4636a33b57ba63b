use Rattle.std.proofs.Common.{rules, ◌≡◌, [], ◌∷◌, subst}
use Rattle.minelib_lines.specs.declared.text_name.TextName.TheVariants.{Blocks}
use Rattle.pit_compile.specs.Verdict.{IsAccepted}
use Rattle.run_tests.proofs.OneFile.{one_text}
use Rattle.run_tests.proofs.callers.block_file.Goals as goal

pub returns-clause-accepted : goal.returns-clause-accepted
returns-clause-accepted g c =
    let done = c.in_ok-_gathered.ensures.done in
    subst (λ texts. IsAccepted c.args.plan.now texts) (one_text c.args.zone.now done.texts done.given (search rules)) done.accepted

pub returns-clause-text : goal.returns-clause-text
returns-clause-text g c =
    let done = c.in_ok-_gathered.ensures.done in
    let same : done.texts ≡ c.args.zone.now ∷ [] = one_text c.args.zone.now done.texts done.given (search rules) in
    let taken = rw same at (done.written Blocks).taken in
    search rules
