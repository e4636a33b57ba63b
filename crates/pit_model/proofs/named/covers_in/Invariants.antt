use Rattle.std.proofs.Common.{◌≡◌, ◌+◌, ◌<◌, length, All}
use Rattle.std.specs.Prelude.{drop}
use Rattle.pit_model.specs.PlanRecords.{covers_in}
use Rattle.pit_model.proofs.BandSteps.{covers_from}
use Rattle.pit_model.proofs.named.covers_in.Given as goal

abbrev pub invariant-loop-place : goal.invariant-loop-place
invariant-loop-place l =
    (covers_from l.place l.cells l.formulas l.covers.items ≡ covers_in l.formulas (drop 2 l.cells))
    × All (λ n. n < length l.formulas) l.covers.items
    × (length l.covers.items + 2 ≡ l.place)
