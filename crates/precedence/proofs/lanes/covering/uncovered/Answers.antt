use Rattle.std.proofs.Common.{◌≡◌, ◌+◌, true, false, ⊎_elim, subst, sym, arith}
use Rattle.std.proofs.lemmas.Bool.{both_ways, cases_Bool}
use Rattle.precedence.specs.declared.lanes.strips.Cover.{Cover}
use Rattle.precedence.specs.inner.lanes.Bits.{has_bit}
use Rattle.precedence.specs.inner.lanes.Windows.{AreUncovered, IsCover}
use Rattle.precedence.proofs.bits.Covering.{cover_meets}
use Rattle.precedence.proofs.lanes.covering.uncovered.Goals.{then-cover-tables, else-cover-tables}
use Rattle.precedence.proofs.lanes.covering.uncovered.Goals as goal

pub loop-cover-init : goal.loop-cover-init
loop-cover-init c = record {
  among = λ k is. is;
  covered = λ lanes i k by_table each all lane was gone. absurd (both_ways _ gone was);
}

pub loop-cover-preserved : goal.loop-cover-preserved
loop-cover-preserved c =
    let had = c.loop-cover.invariant in
    let tables = c.args.tables.now in
    let covers = c.args.covers.now in
    let start = c.args.strip.now.start in
    let cover = c.cover-item.result in
    elim c.if-cover-tables.branch [
      | then-cover-tables w ↦ subst (λ rest. AreUncovered tables covers start c.args.offsets rest) (sym w.rest-is) (record {
        among = λ k is. had.among k (w.uncovered_by-rest.ensures.among k is);
        covered = λ lanes i k by_table each all lane was gone. ⊎_elim
            (λ (there : has_bit c.loop-cover.rest k ≡ true).
            let is_one = subst (λ (one : Cover). IsCover lanes by_table one) (sym c.cover-item.is) (all c.loop-cover.cover-index cover c.loop-cover-test.true) in
            cover_meets tables by_table each lanes i (start + k) cover w.index-tables-cover.result (omega (arith, w.if-cover-tables)) w.index-tables-cover.is
            is_one lane (w.uncovered_by-rest.ensures.covered k there gone))
            (λ (before : has_bit c.loop-cover.rest k ≡ false). had.covered lanes i k by_table each all lane was before)
            (cases_Bool (has_bit c.loop-cover.rest k));
      })
      | else-cover-tables w ↦ subst (λ rest. AreUncovered tables covers start c.args.offsets rest) (sym w.rest-is) had
    ]

pub returns-then-rest-eq0 : goal.returns-then-rest-eq0
returns-then-rest-eq0 c = subst (λ rest. AreUncovered c.args.tables.now c.args.covers.now c.args.strip.now.start c.args.offsets rest) c.if-rest-eq0.true c.loop-cover.invariant
