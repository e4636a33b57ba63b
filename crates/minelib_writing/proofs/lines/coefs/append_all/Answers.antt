use Rattle.std.proofs.Common.{◌≡◌, ◌<◌, ◌++◌, ◌∷◌, ◌∙◌, get_or, ap, sym, arith}
use Rattle.std.specs.Prelude.{decimal}
use Rattle.std.proofs.lemmas.List.{get_or_default}
use Rattle.mine_instance.specs.coefs.Groups.{pairs_of}
use Rattle.mine_instance.specs.coefs.CoveredPairs.{coef_of}
use Rattle.minelib_writing.specs.inner.CoefParts.{coef_text}
use Rattle.pit_units.specs.Line.{line_in}
use Rattle.minelib_writing.proofs.CoefFacts.{all_lines, coef_text_is, next_line, of_pair}
use Rattle.minelib_writing.proofs.lines.coefs.append_all.Goals as goal

pub append_coef-requires-clause-digits : goal.append_coef-requires-clause-digits
append_coef-requires-clause-digits c =
    of_pair (λ e. (e.d < 10) × (e.r < 10)) c.args.group.now.b c.args.group.now.v c.as_slice-d-items.result.now (pairs_of c.args.group.now.pairs)
    c.loop-d.d-index c.as_slice-d-items.ensures c.loop-d-test.true c.requires.digits

pub loop-d-preserved : goal.loop-d-preserved
loop-d-preserved c =
    let b = c.args.group.now.b in
    let v = c.args.group.now.v in
    let pairs = c.as_slice-d-items.result.now in
    let i = c.loop-d.d-index in
    let pair = get_or pairs i (0, 0) in
    let block = c.of-block.result in
    let digits : block ≡ decimal b = c.of-block.ensures ∙ ap decimal c.from.ensures in
    let end = c.loop-d.invariant.end ∙ c.requires.tonnes in
    let line : block ++ 32 ∷ (decimal pair.0 ++ 32 ∷ (decimal pair.1 ++ line_in c.loop-d.scratch c.args.end)) ≡ coef_text (coef_of b v pair) =
    (λ j. digits j ++ 32 ∷ (decimal pair.0 ++ 32 ∷ (decimal pair.1 ++ end j)))
    ∙ sym (coef_text_is (coef_of b v pair)) in
    record {
      end = c.in_ok-append_coef.ensures.end ∙ c.loop-d.invariant.end;
      text = next_line (λ pair. coef_text (coef_of b v pair)) c.args.out.now.items c.loop-d.out.items c.append_coef.new.out.items
          (block ++ 32 ∷ (decimal pair.0 ++ 32 ∷ (decimal pair.1 ++ line_in c.loop-d.scratch c.args.end))) pairs i pair c.loop-d-test.true
          (get_or_default pairs i (0, 0) pair c.loop-d-test.true) c.loop-d.invariant.text c.in_ok-append_coef.ensures.text line;
    }

pub returns-clause-text : goal.returns-clause-text
returns-clause-text c =
    all_lines coef_text c.args.group.now.b c.args.group.now.v c.args.out.now.items c.loop-d.out.items _ (pairs_of c.args.group.now.pairs)
    c.loop-d.d-index c.as_slice-d-items.ensures (omega (arith, c.loop-d-test.false)) c.loop-d.invariant.text
