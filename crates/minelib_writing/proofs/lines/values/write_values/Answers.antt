use Rattle.std.proofs.Common.{◌≡◌, ◌-◌, ◌∷◌, ◌∙◌, pos, suc, drop, get_or, ap, arith, append_assoc, rules}
use Rattle.std.proofs.Math.Seq.{drop-cons}
use Rattle.std.proofs.lemmas.List.Elements.{All-cons}
use Rattle.pit_units.specs.DecimalRange.{IsInDecimalRange}
use Rattle.mine_instance.specs.BlockValues.{values_in}
use Rattle.minelib_writing.proofs.lines.values.write_values.Goals as goal

pub loop-remaining-preserved : goal.loop-remaining-preserved
loop-remaining-preserved c =
    let values = values_in c.args.values in
    let remaining = c.loop-remaining.remaining - 1 in
    let value = get_or values remaining (pos 0) in
    let next : suc remaining ≡ c.loop-remaining.remaining = omega (arith, c.loop-remaining-test.true) in
    let split : drop remaining values ≡ value ∷ drop c.loop-remaining.remaining values =
    drop-cons values remaining (pos 0) (omega (arith, c.loop-remaining.invariant.within, c.loop-remaining-test.true))
    ∙ ap (λ n. value ∷ drop n values) next in
    record {
      within = omega (arith, c.loop-remaining.invariant.within);
      text = rw split (search (rules, append_assoc));
      start = (
        omega (arith, c.write_value-at.ensures.long, c.write_byte-at.ensures.start, c.loop-remaining.invariant.start, next),
        omega (arith, c.write_value-at.ensures.long, c.write_byte-at.ensures.start, c.loop-remaining.invariant.start),
      );
      kept = rw split (All-cons IsInDecimalRange value (drop c.loop-remaining.remaining values) c.write_value-at.ensures.kept c.loop-remaining.invariant.kept);
    }

pub returns-clause-text : goal.returns-clause-text
returns-clause-text c =
    let done : c.loop-remaining.remaining ≡ 0 = omega (arith, c.loop-remaining-test.false) in
    rw done at c.loop-remaining.invariant.text
