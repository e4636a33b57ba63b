use Rattle.std.proofs.Common.{◌≡◌, ◌++◌, ◌∷◌, arith, rules, append_assoc}
use Rattle.std.specs.Prelude.{decimal}
use Rattle.std.proofs.lemmas.Result.{on_ok_weaker}
use Rattle.pit_units.specs.Line.{line_in}
use Rattle.minelib_writing.proofs.CoefFacts.{end_kept}
use Rattle.minelib_writing.proofs.lines.coefs.append_coef.Goals as goal

pub returns-clause-end : goal.returns-clause-end
returns-clause-end c =
    let prefix = c.args.block.now ++ 32 ∷ (decimal c.args.d ++ 32 ∷ decimal c.args.r) in
    let scratch = c.write_start-start.new.scratch in
    let start = c.write_start-start.result in
    let more : line_in scratch start ≡ prefix ++ line_in c.args.scratch.now c.args.end = search (rules, append_assoc) in
    let kept = end_kept prefix c.args.scratch.now scratch start c.args.end (omega (arith, c.write_start-start.ensures.long, c.write_digit-at-2.ensures.start, c.write_digit-at.ensures.start)) c.requires.end.1 c.told-scratch
    c.write_start-start.array_long more in
    on_ok_weaker c.append_line.result (λ _. kept) c.append_line.ensures.ok
