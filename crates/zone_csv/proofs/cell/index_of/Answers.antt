use Rattle.std.proofs.Common.{rules, ◌≡◌, ◌*◌, ◌/◌, ◌%◌, ◌<◌, ◌-ℤ◌, Ok, arith, ap, sym, unsigned_abs}
use Rattle.pit_units.specs.Decimal.{decimal_within}
use Rattle.records.specs.Cells.{trimmed}
use Rattle.zone_csv.specs.Cell.{largest, smallest}
use Rattle.zone_csv.specs.Row.{number_in_cell}
use Rattle.zone_csv.specs.EncodedRow.{IsInGrid}
use Rattle.zone_csv.proofs.CentroidFacts.{whole_sizes}
use Rattle.zone_csv.proofs.cell.index_of.Goals as goal

pub returns-clause-value : goal.returns-clause-value
returns-clause-value c = λ row.
    let axis = c.args.axis in
    let coordinate = c.in_ok-coordinate.coordinate in
    let above = c.above_origin-above.result in
    let some : 0 < axis.size = omega arith in
    let within : IsInGrid axis coordinate = search rules in
    let whole : above % (1000 * axis.size) ≡ 0 = search rules in
    let states : Ok coordinate ≡ number_in_cell row c.args.column (decimal_within 3 (smallest axis) (largest axis) (trimmed c.args.field.now)) = search rules in
    let value : above ≡ unsigned_abs (coordinate -ℤ smallest axis) = search rules in
    let facts = whole_sizes axis some coordinate above within value whole in
    rw (sym states, facts.0, c.size-size.ensures) (ap (λ n. Ok (n / (1000 * axis.size))) value)
