use Rattle.std.proofs.Common.{◌≡◌, ℕ, List, true, false, eq-eqb, ◌<◌, ◌++◌, ◌∷◌, ◌∙◌, [], get_or, ap, sym, arith, append-nil}
use Rattle.std.specs.Prelude.{decimal, if◌then◌else◌, ◌==◌}
use Rattle.std.proofs.lemmas.List.{get_or_default}
use Rattle.mine_instance.specs.coefs.Groups.{pairs_of}
use Rattle.mine_instance.specs.coefs.CoveredPairs.{coef_of}
use Rattle.minelib_writing.specs.inner.CoefParts.{cpit_coef_text}
use Rattle.pit_units.specs.Line.{line_in}
use Rattle.minelib_writing.proofs.CoefFacts.{all_lines, cpit_coef_text_is, differ, next_line, of_pair}
use Rattle.minelib_writing.proofs.lines.coefs.append_at.Goals as goal
use Rattle.minelib_writing.proofs.lines.coefs.append_at.Goals.{then-from-destination+in_ok-append_chosen, else-from-destination}

pub append_chosen-requires-clause-digit : goal.append_chosen-requires-clause-digit
append_chosen-requires-clause-digit c =
    of_pair (λ e. e.r < 10) c.args.group.now.b c.args.group.now.v c.as_slice-d-items.result.now (pairs_of c.args.group.now.pairs)
    c.loop-d.d-index c.as_slice-d-items.ensures c.loop-d-test.true c.requires.digits

pub loop-d-preserved : goal.loop-d-preserved
loop-d-preserved c =
    let b = c.args.group.now.b in
    let v = c.args.group.now.v in
    let pairs = c.as_slice-d-items.result.now in
    let i = c.loop-d.d-index in
    let pair = get_or pairs i (0, 0) in
    let at = c.args.destination in
    let digits : c.of-block.result ≡ decimal b = c.of-block.ensures ∙ ap decimal c.from.ensures in
    let end = c.loop-d.invariant.end ∙ c.requires.tonnes in
    let written = c.of-block.result ++ 32 ∷ (decimal pair.1 ++ line_in c.loop-d.scratch c.args.end) in
    let part : ℕ × ℕ → List ℕ = λ pair. if pair.0 == at then cpit_coef_text (coef_of b v pair) else [] in
    let stands = get_or_default pairs i (0, 0) pair c.loop-d-test.true in
    elim c.if-from-destination.branch [
      | then-from-destination+in_ok-append_chosen w ↦ (
          let yes : (pair.0 == at) ≡ true = eq-eqb _ _ (sym c.from-in-loop-d.ensures ∙ w.if-from-destination.true) in
          let line : written ≡ part pair =
          (λ j. digits j ++ 32 ∷ (decimal pair.1 ++ end j))
          ∙ sym (ap (λ test. if test then cpit_coef_text (coef_of b v pair) else []) yes ∙ cpit_coef_text_is (coef_of b v pair)) in
          record {
            end = (λ j. line_in (w.scratch-is j) c.args.end) ∙ w.in_ok-append_chosen.ensures.end ∙ c.loop-d.invariant.end;
            text =
                (λ j. (w.out-is j).items)
                ∙ next_line part c.args.out.now.items c.loop-d.out.items w.append_chosen.new.out.items written pairs i pair
                c.loop-d-test.true stands c.loop-d.invariant.text w.in_ok-append_chosen.ensures.text line;
          }
          )
      | else-from-destination w ↦ (
          let no : (pair.0 == at) ≡ false = differ pair.0 at (λ e. w.if-from-destination.false (c.from-in-loop-d.ensures ∙ e)) in
          let none : [] ≡ part pair = sym (ap (λ test. if test then cpit_coef_text (coef_of b v pair) else []) no) in
          record {
            end = (λ j. line_in (w.scratch-is j) c.args.end) ∙ c.loop-d.invariant.end;
            text =
                (λ j. (w.out-is j).items)
                ∙ next_line part c.args.out.now.items c.loop-d.out.items c.loop-d.out.items [] pairs i pair
                c.loop-d-test.true stands c.loop-d.invariant.text (sym (append-nil c.loop-d.out.items)) none;
          }
          )
    ]

pub returns-clause-text : goal.returns-clause-text
returns-clause-text c =
    all_lines (λ e. if e.d == c.args.destination then cpit_coef_text e else []) c.args.group.now.b c.args.group.now.v c.args.out.now.items
    c.loop-d.out.items _ (pairs_of c.args.group.now.pairs) c.loop-d.d-index
    c.as_slice-d-items.ensures (omega (arith, c.loop-d-test.false)) c.loop-d.invariant.text
