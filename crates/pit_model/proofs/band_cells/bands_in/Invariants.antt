use Rattle.std.proofs.Common.{◌≡◌, ◌+◌, ◌*◌, length, All}
use Rattle.std.specs.Prelude.{drop}
use Rattle.plan_parts.specs.formulas.BandsInvariant.{IsBand}
use Rattle.pit_model.specs.DestinationRecords.{bands_in}
use Rattle.pit_model.proofs.BandSteps.{bands_from}
use Rattle.pit_model.proofs.band_cells.bands_in.Given as goal

abbrev pub invariant-loop-pair : goal.invariant-loop-pair
invariant-loop-pair l =
    (bands_from (2 * l.pair) l.cells l.bands.items ≡ bands_in (drop 4 l.cells))
    × All IsBand l.bands.items
    × (length l.bands.items + 2 ≡ l.pair)
