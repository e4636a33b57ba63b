use Rattle.std.proofs.Common.{◌≡◌, ◌∙◌, length, ap, arith, sym}
use Rattle.std.proofs.lemmas.Bool.{eqb-true}
use Rattle.mine_instance.specs.inner.LazyCoefFields.{heavy_of, lazy_coefs}
use Rattle.mine_instance.proofs.LazyFacts.{lazy_are, heavy_few, none_found}
use Rattle.mine_instance.proofs.coefs.lazy.LazyCoefs.new.Goals as goal

pub returns-then-is_empty : goal.returns-then-is_empty
returns-then-is_empty c =
    let none : length c.args.pairs.items ≡ 0 = omega (arith, eqb-true _ _ (sym c.if-is_empty.ensures), c.args.pairs.ok) in
    ap (lazy_coefs c.args.pairs.items) c.new-heavy.ensures.items ∙ sym (none_found c.args.pairs.items c.args.blocks.now none)

pub invariant_of-result-2 : goal.invariant_of-result-2
invariant_of-result-2 c =
    let count : length c.in_ok-heavy.heavy.items ≡ length (heavy_of c.args.blocks.now) = ap length c.in_ok-heavy.ensures in
    record {
      heavy = omega (arith, count, heavy_few c.args.blocks.now, c.requires.blocks);
      pairs = c.requires.pairs;
    }

pub returns : goal.returns
returns c = ap (lazy_coefs c.args.pairs.items) c.in_ok-heavy.ensures ∙ lazy_are c.args.pairs.items c.args.blocks.now
