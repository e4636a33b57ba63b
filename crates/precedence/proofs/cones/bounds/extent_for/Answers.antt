use Rattle.std.proofs.Common.{◌≡◌, get_or, sym, ap, ◌∙◌, arith, ⊎_elim}
use Rattle.std.proofs.lemmas.Bool.{cases_lt}
use Rattle.std.proofs.lemmas.List.{get_or_default}
use Rattle.precedence.specs.declared.cones.cone_rows.Extent.{Extent}
use Rattle.precedence.proofs.cones.bounds.extent_for.Goals as goal

pub loop-zone-preserved : goal.loop-zone-preserved
loop-zone-preserved c =
    let had = c.loop-zone.invariant in
    let zone = c.loop-zone.zone in
    let one = c.index-extents-zone.result in
    let extent = c.extent_where-extent.result in
    let rows = c.greater-rows.ensures in
    let benches = c.greater-benches.ensures in
    record {
      few_rows = rows.few had.few_rows extent.few_rows;
      few_benches = benches.few had.few_benches extent.few_benches;
      wider = λ z cone e lt same. ⊎_elim
          (λ before. let h = had.wider z cone e before same in (omega (arith, h.0, rows.one), omega (arith, h.1, benches.one)))
          (λ last.
          let here : z ≡ zone = omega arith in
          let chosen : extent ≡ one = c.extent_where-extent.ensures
          (get_or_default c.args.cones.now zone _ cone (omega (arith, c.loop-zone-test.true))
          ∙ ap (λ n. get_or c.args.cones.now n cone) (sym here) ∙ same) in
          let is : get_or c.args.extents.now z e ≡ extent =
          ap (λ n. get_or c.args.extents.now n e) here
          ∙ get_or_default c.args.extents.now zone e one (omega (arith, c.loop-zone-test.true, c.requires))
          ∙ sym c.index-extents-zone.is ∙ sym chosen in
          (omega (arith, ap (λ (x : Extent). x.rows) is, rows.other), omega (arith, ap (λ (x : Extent). x.benches) is, benches.other)))
          (cases_lt z zone);
    }
