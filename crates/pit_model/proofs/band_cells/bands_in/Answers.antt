use Rattle.std.proofs.Common.{◌∙◌, sym, arith, length-append}
use Rattle.std.proofs.lemmas.List.Elements.{All-push}
use Rattle.plan_parts.specs.formulas.BandsInvariant.{IsBand}
use Rattle.pit_model.proofs.BandSteps.{bands_more}
use Rattle.pit_model.proofs.band_cells.bands_in.Goals as goal

pub loop-pair-preserved : goal.loop-pair-preserved
loop-pair-preserved c =
    let cells = c.args.cells.now in
    let old = c.loop-pair.bands.items in
    let said = rw (c.at-in-loop-pair.ensures, c.at.ensures) at c.in_ok-band.ensures.value in
    rw c.in_ok-push.ensures.items (
      bands_more cells c.loop-pair.pair old c.in_ok-band.band (omega arith) (sym said)
          ∙ c.loop-pair.invariant.0,
      All-push IsBand old c.in_ok-band.band c.loop-pair.invariant.1 c.in_ok-band.ensures.in_range,
      simp length-append (omega arith),
    )
